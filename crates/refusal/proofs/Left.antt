-- What a call leaves, by its verdict.
--     left-refused, left-accepted     what is left by a verdict that is known
--     refused-left, accepted-left     the same, with the verdict
--     left-part                       the part of a list that was lent, and the rest after it
-- Assumes nothing.
use mathlib.Core.List.{List, ◌++◌}
use mathlib.Core.Path.{◌≡◌, refl, sym, ◌∙◌, ap}
use Prim.Native.Nat.{ℕ}
use lib.ListN.{take, drop, take-append-drop}
use Rattle.std.proofs.Common.{Ok, Err}
use Rattle.refusal.specs.declared.Refusal.{Refusal}
use Rattle.refusal.specs.Answer.{Verdict, left}

pub left-refused : {v : Verdict} {why : Refusal} → v ≡ Err why → (done lent : List ℕ)
    → lent ≡ left v done lent
left-refused e done lent = ap (λ (w : Verdict). left w done lent) (sym e)

pub left-accepted : {v : Verdict} → v ≡ Ok tt → (done lent : List ℕ) → done ≡ left v done lent
left-accepted e done lent = ap (λ (w : Verdict). left w done lent) (sym e)

pub refused-left : {v : Verdict} {why : Refusal} → v ≡ Err why → (done lent : List ℕ)
    → (Err why ≡ v) × (lent ≡ left v done lent)
refused-left e done lent = (sym e, left-refused e done lent)

pub accepted-left : {v : Verdict} → v ≡ Ok tt → {c done : List ℕ} → c ≡ done → (lent : List ℕ)
    → (Ok tt ≡ v) × (c ≡ left v done lent)
accepted-left e {done = done} d lent = (sym e, d ∙ left-accepted e done lent)

pub left-part : (v : Verdict) (n : ℕ) (done lent : List ℕ)
    → left v done (take n lent) ++ drop n lent ≡ left v (done ++ drop n lent) lent
left-part (Ok unit) n done lent = refl
left-part (Err why) n done lent = take-append-drop n lent
