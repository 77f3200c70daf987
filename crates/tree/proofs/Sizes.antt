-- The verdicts by size, and those of a schedule and the tables lent for it, row by row, the manual, "Refusal
-- numbers" (Order: trees).
--     too_many, wrong-sizes, right-sizes     the verdict by size: 1, then 3
--     sizes-right, fitting-sizes    what accepted sizes say, and that such sizes are accepted
--     tree-unfit, tree-checked      the verdict on a schedule and its tables: that by size, and then the check's
--     taken-closed                  what an accepted schedule and its tables are
-- Assumes nothing.
use mathlib.Core.Bool.{Bool, true, false, not, ◌&&◌, and-eq-true_iff}
use mathlib.Core.List.Memᴰ
use mathlib.Core.List.{List, [], ◌∷◌}
use mathlib.Core.Path.{◌≡◌, refl, ◌∙◌, ap, sym}
use Prim.Native.Nat.{ℕ, ◌+◌, ◌≤◌, ◌<◌}
use native.Mathlib.Omega.{arith}
use borrow.Author.Tests.{lt-ltb, le-ltb, eq-eqb, eqb-true, ltb-false, not-false}
use lib.Dec.{eqb}
use lib.ListN.{length}
use Rattle.std.proofs.Common.{Ok, Err}
use Rattle.refusal.specs.declared.Refusal.{Refusal}
use Rattle.refusal.specs.declared.Refusal.TheVariants.{TooManyTasks, WrongLength}
use Rattle.refusal.specs.Rows.{◌⇒◌, judge}
use Rattle.refusal.proofs.Rows.{judge-refused, judge-accepted}
use Rattle.refusal.proofs.Theorems.{accepted-none}
use Rattle.triangle.specs.Count.{largest}
use Rattle.counts.specs.Counts.{count_rows}
use Rattle.counts.proofs.Sizes.{allowed-counts}
use Rattle.schedule.specs.Schedule.{Schedule}
use Rattle.schedule.specs.Check.{play_rows, beat_rows, checked}
use Rattle.schedule.proofs.Theorems.{accepted-schedule}
use Rattle.tree.specs.Table.{fits, size_rows, lent_rows, tree_rows}

module _ (n beats left right parent : ℕ) where
  pub too_many : largest < n → judge (size_rows n beats left right parent) ≡ Err TooManyTasks
  too_many h = simp (lt-ltb largest n h)

  module _ (h : n ≤ largest) where
    pub wrong-sizes : fits n beats left right parent ≡ false
        → judge (size_rows n beats left right parent) ≡ Err WrongLength
    wrong-sizes f =
        ap (λ (b : Bool). judge ((b ⇒ TooManyTasks) ∷ (not (fits n beats left right parent) ⇒ WrongLength) ∷ []))
        (le-ltb largest n h)
        ∙ ap (λ (b : Bool). judge ((not b ⇒ WrongLength) ∷ [])) f

    pub right-sizes : fits n beats left right parent ≡ true
        → judge (size_rows n beats left right parent) ≡ Ok tt
    right-sizes f =
        ap (λ (b : Bool). judge ((b ⇒ TooManyTasks) ∷ (not (fits n beats left right parent) ⇒ WrongLength) ∷ []))
        (le-ltb largest n h)
        ∙ ap (λ (b : Bool). judge ((not b ⇒ WrongLength) ∷ [])) f

  pub sizes-right : judge (size_rows n beats left right parent) ≡ Ok tt
      → (n ≤ largest) × (beats ≡ n + n) × (left ≡ n) × (right ≡ n) × (parent ≡ n)
  sizes-right e =
      let few = accepted-none (size_rows n beats left right parent) e _ (Memᴰ.head refl) in
      let fit =
      not-false (fits n beats left right parent)
      (accepted-none (size_rows n beats left right parent) e _ (Memᴰ.tail (Memᴰ.head refl))) in
      let x = (and-eq-true_iff (eqb beats (n + n) && eqb left n && eqb right n) (eqb parent n)).0 fit in
      let y = (and-eq-true_iff (eqb beats (n + n) && eqb left n) (eqb right n)).0 x.0 in
      let z = (and-eq-true_iff (eqb beats (n + n)) (eqb left n)).0 y.0 in (
        ltb-false largest n few,
        eqb-true beats (n + n) z.0,
        eqb-true left n z.1,
        eqb-true right n y.1,
        eqb-true parent n x.1,
      )

  pub fitting-sizes : (n ≤ largest) × (beats ≡ n + n) × (left ≡ n) × (right ≡ n) × (parent ≡ n)
      → judge (size_rows n beats left right parent) ≡ Ok tt
  fitting-sizes q =
      right-sizes q.0
      (simp (eq-eqb beats (n + n) q.1, eq-eqb left n q.2, eq-eqb right n q.3, eq-eqb parent n q.4))

module _ (n : ℕ) (b l r p : List ℕ) where
  pub tree-unfit : {why : Refusal} → judge (lent_rows n b l r p) ≡ Err why
      → judge (tree_rows n b l r p) ≡ Err why
  tree-unfit {why} e = judge-refused (lent_rows n b l r p) (play_rows n b) why e

  pub tree-checked : judge (lent_rows n b l r p) ≡ Ok tt → judge (tree_rows n b l r p) ≡ checked n n b
  tree-checked e =
      let q = sizes-right n (length b) (length l) (length r) (length p) e in
      let few = allowed-counts n n (q.0, omega arith) in
      let long = eq-eqb (length b) (n + n) q.1 in
      judge-accepted (lent_rows n b l r p) (play_rows n b) e
      ∙ sym (judge-accepted (count_rows n n) (beat_rows n n b) few
      ∙ ap (λ (x : Bool). judge ((not x ⇒ WrongLength) ∷ play_rows n b)) long)

  -- a schedule and its tables that are taken: the tables are n long and the schedule is closed
  pub taken-closed : judge (lent_rows n b l r p) ≡ Ok tt → checked n n b ≡ Ok tt
      → (length l ≤ largest) × (length r ≡ length l) × (length p ≡ length l) × Schedule (length l) (length l) b
  taken-closed e f =
      let q = sizes-right n (length b) (length l) (length r) (length p) e in (
        omega arith,
        omega arith,
        omega arith,
        rw q.2 (accepted-schedule n n b f).1,
      )
