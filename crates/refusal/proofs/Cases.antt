-- The definitions of specs/ on small inputs: for each one value and another. That number, place and surplus tell every
-- two refusals apart is `same-refusal` in Theorems. Assumes nothing.
use mathlib.Core.Bool.{true, false}
use mathlib.Core.List.{List, [], ◌∷◌}
use mathlib.Core.Path.{◌≡◌, refl, ◌∙◌, ap, sym}
use native.Mathlib.Omega.{arith}
use lib.IntN.{pos, negsuc}
use Rattle.std.proofs.Common.{ℕ, Ok, Err}
use Rattle.refusal.specs.declared.Refusal.TheVariants.{
  TooManyTasks,
  MoreDownThanUp,
  WrongLength,
  BadBeat,
  EmptyHand,
  WrongTakeUps,
  NoSuchOutline,
}
use Rattle.refusal.specs.Refusal.{refusal_number, refusal_place, refusal_surplus}
use Rattle.refusal.specs.Answer.{refusal, place, surplus, verdict, value, answer, left}
use Rattle.refusal.specs.Rows.{Row, ◌⇒◌, judge, test}
use Rattle.refusal.proofs.Theorems.{Given, refused-given, given-refused}

-- the first and the last row of the table; a place that is a beat, and one that is not
number-1 : refusal_number TooManyTasks ≡ 1
number-1 = refl

number-15 : refusal_number (NoSuchOutline 2) ≡ 15
number-15 = refl

place-3 : refusal_place (BadBeat 3) ≡ 3
place-3 = refl

no_place : refusal_place WrongLength ≡ 0
no_place = refl

-- two ones missing, and a refusal that says nothing of the ones
surplus-missing : refusal_surplus (WrongTakeUps (negsuc 1)) ≡ negsuc 1
surplus-missing = refl

no-surplus : refusal_surplus (BadBeat 3) ≡ pos 0
no-surplus = refl

-- a verdict as numbers
accepted-refusal : refusal (Ok tt) ≡ 0
accepted-refusal = refl

refused-refusal : refusal (Err (EmptyHand 2)) ≡ 5
refused-refusal = refl

accepted-place : place (Ok tt) ≡ 0
accepted-place = refl

refused-place : place (Err (EmptyHand 2)) ≡ 2
refused-place = refl

accepted-surplus : surplus (Ok tt) ≡ pos 0
accepted-surplus = refl

refused-surplus : surplus (Err (WrongTakeUps (pos 1))) ≡ pos 1
refused-surplus = refl

-- the parts of an answer, and the answer from its parts: a refused call has no value
accepted-verdict : verdict {A = ℕ} (Ok 7) ≡ Ok tt
accepted-verdict = refl

refused-verdict : verdict {A = ℕ} (Err WrongLength) ≡ Err WrongLength
refused-verdict = refl

accepted-value : value (Ok 7) ≡ 7
accepted-value = refl

refused-value : value (Err WrongLength) ≡ 0
refused-value = refl

accepted-answer : answer (Ok tt) 7 ≡ Ok 7
accepted-answer = refl

refused-answer : answer (Err WrongLength) 7 ≡ Err WrongLength
refused-answer = refl

-- a row that holds and one that does not
row-holds : test (true ⇒ TooManyTasks) ≡ true
row-holds = refl

row-fails : test (false ⇒ TooManyTasks) ≡ false
row-fails = refl

-- the first row that holds refuses; where none does, the call is accepted
abbrev rows : List Row
rows = (false ⇒ TooManyTasks) ∷ (true ⇒ MoreDownThanUp) ∷ (true ⇒ WrongLength) ∷ []

judged-second : judge rows ≡ Err MoreDownThanUp
judged-second = refl

judged-none : judge ((false ⇒ TooManyTasks) ∷ (false ⇒ MoreDownThanUp) ∷ []) ≡ Ok tt
judged-none = refl

-- in the words of the theorems: 2 is given, and 3 is not, though its row holds too
given-second : Given rows MoreDownThanUp
given-second = refused-given rows MoreDownThanUp judged-second

not-given-third : Given rows WrongLength → ⊥
not-given-third g = omega (arith, ap refusal (sym judged-second ∙ given-refused rows WrongLength g))

-- what a call leaves: its work; refused, what was lent
leaves-work : left (Ok tt) (1 ∷ []) (0 ∷ []) ≡ 1 ∷ []
leaves-work = refl

leaves-lent : left (Err WrongLength) (1 ∷ []) (0 ∷ []) ≡ 0 ∷ []
leaves-lent = refl
