-- The verdicts by size on the way back from a text, row by row, the manual, "Refusal numbers" (rows 1, 3).
--     too_many, wrong-length, right-length     the verdict by size: 1, then 3
--     sizes-right                              what accepted sizes say
-- Assumes nothing.
use mathlib.Core.List.Memᴰ
use mathlib.Core.Path.{◌≡◌, refl}
use Prim.Native.Nat.{ℕ, ◌+◌, ◌≤◌, ◌<◌}
use borrow.Author.Tests.{lt-ltb, le-ltb, eq-eqb, ne_eqb, eqb-true, ltb-false, not-false}
use lib.Dec.{eqb}
use Rattle.std.proofs.Common.{Ok, Err}
use Rattle.refusal.specs.declared.Refusal.TheVariants.{TooManyTasks, WrongLength}
use Rattle.refusal.specs.Rows.{judge}
use Rattle.refusal.proofs.Theorems.{accepted-none}
use Rattle.triangle.specs.Count.{largest}
use Rattle.outline_back.specs.Back.{back_rows}

module _ (n room : ℕ) where
  pub too_many : largest < n → judge (back_rows n room) ≡ Err TooManyTasks
  too_many h = simp (lt-ltb largest n h)

  pub wrong-length : n ≤ largest → (room ≡ n + n → ⊥) → judge (back_rows n room) ≡ Err WrongLength
  wrong-length h f = simp (le-ltb largest n h, ne_eqb room (n + n) f)

  pub right-length : n ≤ largest → room ≡ n + n → judge (back_rows n room) ≡ Ok tt
  right-length h e = simp (le-ltb largest n h, eq-eqb room (n + n) e)

  pub sizes-right : judge (back_rows n room) ≡ Ok tt → (n ≤ largest) × (room ≡ n + n)
  sizes-right e =
      let few = accepted-none (back_rows n room) e _ (Memᴰ.head refl) in
      let fit =
      not-false (eqb room (n + n)) (accepted-none (back_rows n room) e _ (Memᴰ.tail (Memᴰ.head refl))) in
      (ltb-false largest n few, eqb-true room (n + n) fit)
