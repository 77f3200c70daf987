-- What the manual, "Refusal numbers", has a call answer, for each case of the two kinds of answer. Definitions only.
--     Verdict            the answer of a call that gives nothing but its consent
--     Answer             the answer of a call that gives one number
--     refusal, place     of a verdict: an accepted call answers 0 and 0, a refused one the refusal's number and place
--                        [R8] [R7] [F5]
--     surplus            of a verdict: an accepted call answers 0, a refused one what its refusal says of the ones
--                        [Q2] [R7] [R8] [F5]
--     verdict            of an answer, whatever it gives: whether the call was accepted [F5]
--     value              of an answer: its number; 0 after a refusal [R7] [F5]
--     answer             the answer of a call that would give n, by the verdict on its input
--     left               what a call leaves in what was lent to it: its work, or, refused, what was there
use Rattle.std.specs.Prelude.{List, ℕ, ℤ, pos, Result, Ok, Err}
use Rattle.refusal.specs.declared.Refusal.{Refusal}
use Rattle.refusal.specs.Refusal.{refusal_number, refusal_place, refusal_surplus}

abbrev pub Verdict : Type 0
Verdict = Result Unit Refusal

abbrev pub Answer : Type 0
Answer = Result ℕ Refusal

abbrev pub refusal : Verdict → ℕ
refusal (Ok unit) = 0
refusal (Err why) = refusal_number why

abbrev pub place : Verdict → ℕ
place (Ok unit) = 0
place (Err why) = refusal_place why

abbrev pub surplus : Verdict → ℤ
surplus (Ok unit) = pos 0
surplus (Err why) = refusal_surplus why

abbrev pub verdict : {A : Type 0} → Result A Refusal → Verdict
verdict (Ok given) = Ok tt
verdict (Err why) = Err why

abbrev pub value : Answer → ℕ
value (Ok n) = n
value (Err why) = 0

abbrev pub answer : Verdict → ℕ → Answer
answer (Ok unit) n = Ok n
answer (Err why) n = Err why

abbrev pub left : Verdict → List ℕ → List ℕ → List ℕ
left (Ok unit) done lent = done
left (Err why) done lent = lent
