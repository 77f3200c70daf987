-- What explaining a lent schedule answers, the manual, "Why a beat moves" and "Refusal numbers" (Order: schedules).
-- Definitions only.
--     Explained           an answer: the reason, or why there is none
--     verdict, values     of an answer: whether the call was accepted, and the explanation; after a refusal nothing is
--                         explained [F5]
--     nothing             what is said after a refusal: the case 0, and no place
--     unless-refused      an explanation, by the verdict on what was lent
--     explained t s b     the explanation of a lent schedule; nothing where the check refuses it [X4]
--     numbers e           the numbers of an explanation: the case, and then the places that it has
use Rattle.std.specs.Prelude.{List, [], ◌∷◌, ◌++◌, ℕ, Result, Ok, Err}
use Rattle.refusal.specs.declared.Refusal.{Refusal}
use Rattle.refusal.specs.Answer.{Verdict}
use Rattle.schedule.specs.Check.{checked}
use Rattle.reason.specs.declared.Reason.{Reason}
use Rattle.reason.specs.Explanation.{Explanation, says, explanation_of, values_of}

abbrev pub Explained : Type 0
Explained = Result Reason Refusal

abbrev pub verdict : Explained → Verdict
verdict (Ok reason) = Ok tt
verdict (Err why) = Err why

abbrev pub nothing : Explanation
nothing = says 0 [] [] []

abbrev pub values : Explained → Explanation
values (Ok reason) = values_of reason
values (Err why) = nothing

abbrev pub unless-refused : Verdict → Explanation → Explanation
unless-refused (Ok unit) e = e
unless-refused (Err why) e = nothing

abbrev pub explained : ℕ → ℕ → List ℕ → Explanation
explained t s b = unless-refused (checked t s b) (explanation_of b)

abbrev pub numbers : Explanation → List ℕ
numbers e = e.case ∷ (e.found ++ e.moved ++ e.changed)
