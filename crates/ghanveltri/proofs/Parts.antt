-- The one number that a C function answers, from the verdict or the answer that it was given:
-- rules that `search` chains.
--     refusal-of, place_of, value_of, verdict-of     a part of what was given is that part of what it equals
--     refusal-before, place-before                   the refusal and the place are known before there is a value
--     surplus-of, surplus-before                     the same of the surplus, as it is read from its bits
-- Assumes nothing.
use mathlib.Core.Path.{◌≡◌, ◌∙◌, ap, sym}
use Prim.Native.Nat.{ℕ}
use lib.IntN.{ℤ}
use Rattle.refusal.specs.Answer.{Verdict, Answer, refusal, place, surplus, verdict, value, answer}
use Rattle.refusal.proofs.Theorems.{verdict-answer}

pub refusal-of : (v w : Verdict) (r : ℕ) → r ≡ refusal v → v ≡ w → r ≡ refusal w
refusal-of v w r e f = e ∙ ap refusal f

pub place_of : (v w : Verdict) (r : ℕ) → r ≡ place v → v ≡ w → r ≡ place w
place_of v w r e f = e ∙ ap place f

pub value_of : (a b : Answer) (r : ℕ) → r ≡ value a → a ≡ b → r ≡ value b
value_of a b r e f = e ∙ ap value f

pub verdict-of : (a b : Answer) (v : Verdict) → v ≡ verdict a → a ≡ b → v ≡ verdict b
verdict-of a b v e f = e ∙ ap verdict f

pub refusal-before : (v : Verdict) (n r : ℕ) → r ≡ refusal v → r ≡ refusal (verdict (answer v n))
refusal-before v n r e = e ∙ ap refusal (sym (verdict-answer v n))

pub place-before : (v : Verdict) (n r : ℕ) → r ≡ place v → r ≡ place (verdict (answer v n))
place-before v n r e = e ∙ ap place (sym (verdict-answer v n))

pub surplus-of : (v w : Verdict) {r q : ℤ} → r ≡ q → q ≡ surplus v → v ≡ w → r ≡ surplus w
surplus-of v w b e f = b ∙ e ∙ ap surplus f

pub surplus-before : (v : Verdict) (n : ℕ) {r q : ℤ} → r ≡ q → q ≡ surplus v → r ≡ surplus (verdict (answer v n))
surplus-before v n b e = b ∙ e ∙ ap surplus (sym (verdict-answer v n))
