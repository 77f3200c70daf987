-- The order of refusals, the manual, "Refusal numbers". Definitions only.
--     holds ⇒ why     a row of an order: where the test holds, the call is refused so
--     judge           the verdict of an order: the first row whose test holds refuses; where none does, the call is
--                     accepted [R11]
--     test            the test of a row
use Rattle.std.specs.Prelude.{Bool, true, false, List, [], ◌∷◌, Ok, Err}
use Rattle.refusal.specs.declared.Refusal.{Refusal}
use Rattle.refusal.specs.Answer.{Verdict}

infix 20 ◌⇒◌
pub data Row : Type 0 where
  ◌⇒◌ : Bool → Refusal → Row

abbrev pub judge : List Row → Verdict
judge [] = Ok tt
judge ((true ⇒ why) ∷ rows) = Err why
judge ((false ⇒ why) ∷ rows) = judge rows

abbrev pub test : Row → Bool
test (holds ⇒ why) = holds
