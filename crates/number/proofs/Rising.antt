-- What the two scans of the number find in lent beats, which may be no schedule: y is the first beat that is not 1, x
-- the first from there on that is not 0.
--     split        the beats are y ones, then zeros up to x, then the rest
--     split-take   so the beats before x are these ones and zeros
-- Assumes nothing.
use mathlib.Core.List.{List, [], ◌∷◌}
use mathlib.Core.Path.{◌≡◌, refl, ◌∙◌, ap, ap₂, sym}
use Prim.Native.Nat.{ℕ, zero, suc, ◌+◌, ◌-◌, ◌≤◌, ◌<◌}
use native.Mathlib.Omega.{arith}
use lib.ListN.{length, get_or, take}
use lib.Seq.{take-append-add}
use Rattle.schedule.proofs.Skipping.{Skips}
use Rattle.circle.proofs.Shape.{ups, downs, shape-length, shape-join, get-ups}

split-ups : (y : ℕ) (b : List ℕ) → y ≤ length b → ((k : ℕ) → k < y → get_or b k 0 ≡ 1) → (z : List ℕ) × (b ≡ ups y z)
split-ups zero b h f = (b, refl)
split-ups (suc y) [] h f = absurd (omega arith)
split-ups (suc y) (x ∷ b) h f =
    let rest = split-ups y b (omega arith) (λ k l. f (suc k) (omega arith)) in
    (rest.0, ap₂ (λ (v : ℕ) (l : List ℕ). v ∷ l) (f 0 (omega arith)) rest.1)

split-downs : (q : ℕ) (b : List ℕ) → q ≤ length b → ((k : ℕ) → k < q → get_or b k 0 ≡ 0)
    → (z : List ℕ) × (b ≡ downs q z)
split-downs zero b h f = (b, refl)
split-downs (suc q) [] h f = absurd (omega arith)
split-downs (suc q) (x ∷ b) h f =
    let rest = split-downs q b (omega arith) (λ k l. f (suc k) (omega arith)) in
    (rest.0, ap₂ (λ (v : ℕ) (l : List ℕ). v ∷ l) (f 0 (omega arith)) rest.1)

module _ {b : List ℕ} {y x : ℕ} (sy : Skips b 0 1 y) (sx : Skips b y 0 x) where
  split : (z : List ℕ) × (b ≡ ups y (downs (x - y) z))
  split =
      let first = split-ups y b sy.high (λ k l. sy.run k (omega arith) l) in
      let beat : (k : ℕ) → get_or first.0 k 0 ≡ get_or b (y + k) 0 =
      λ k. sym (ap (λ (l : List ℕ). get_or l (y + k) 0) first.1 ∙ get-ups y k (y + k) first.0 refl) in
      let long : x - y ≤ length first.0 =
      omega (arith, sx.low, sx.high, ap length first.1, shape-length y 0 first.0) in
      let second =
      split-downs (x - y) first.0 long (λ k l. beat k ∙ sx.run (y + k) (omega arith) (omega (arith, sx.low))) in
      (second.0, first.1 ∙ ap (ups y) second.1)

  pub split-take : take x b ≡ ups y (downs (x - y) [])
  split-take =
      let w = ups y (downs (x - y) []) in
      let long : x ≡ length w + 0 = omega (arith, sx.low, shape-length y (x - y) []) in
      ap₂ take long (split.1 ∙ sym (shape-join y (x - y) split.0))
      ∙ take-append-add w split.0 0
      ∙ shape-join y (x - y) []
