-- The look-up's parts hold what the table holds: tested once over each part, and a law turns the
-- test into the entry [N7].
--     pair-le                       the product that it halves grows with the row
--     place-below, place-from       a cell before a row's first is of a row before it, and one from there on
--                                   of that row or a later one
--     agree                         the test, which the check computes: the rows of the table stand in
--                                   the part one after another
--     low-at, middle-at, high-at    so the entry at t, s stands in its part
--     at-over                       past s = t the table has zeros
-- Assumes nothing.
use mathlib.Core.Bool.{Bool}
use mathlib.Core.List.{List}
use mathlib.Core.Path.{◌≡◌, ◌∙◌, subst}
use Prim.Native.Nat.{ℕ, suc, ◌+◌, ◌-◌, ◌*◌, ◌<◌, ◌≤◌}
use native.Mathlib.Nat.{mul-le-mul, mul-suc, mul_comm}
use native.Mathlib.Omega.{arith}
use native.Mathlib.Decide.{dec_le}
use lib.Dec.{T, eqb, eqb→eq}
use lib.ListN.{get_or}
use Rattle.triangle.specs.Count.{largest, cell}
use Rattle.triangle.specs.Table.{at, low, middle, high, middle_row, high_row}
use Rattle.bounded.specs.Bounded.{every}
use Rattle.bounded.proofs.Every.{every-T}
use Rattle.triangle.proofs.Count.{N-over}
use Rattle.triangle.proofs.Rule.{at-N, at-column-outside}

pub pair-le : (a b : ℕ) → a ≤ b → a * (a + 1) ≤ b * (b + 1)
pair-le a b h = mul-le-mul {n₁ = a} {m₁ = a + 1} {n₂ = b} {m₂ = b + 1} h (omega arith)

module _ (t s row : ℕ) where
  pub place-below : cell t s < cell row 0 → t < row
  place-below h = elim (dec_le row t) [ yes k ↦ absurd (omega (arith, pair-le row t k)) | no k ↦ omega arith ]

  pub place-from : s ≤ t → cell row 0 ≤ cell t s → row ≤ t
  place-from k h = elim (dec_le row t) [
    | yes l ↦ l
    | no l ↦ absurd (omega (arith, next t, pair-le (t + 1) row (omega arith)))
  ]
    where
      next : (a : ℕ) → (a + 1) * (a + 1 + 1) ≡ a * (a + 1) + 2 * (a + 1)
      next a = omega (arith, mul-suc (a + 1) (a + 1), mul-suc (a + 1) a, mul_comm (a + 1) a)

-- whether the n rows of the table from a first one on, each up to s = t, are the list
agree : List ℕ → ℕ → ℕ → Bool
agree l first n =
    every (λ k. every (λ s. eqb (at (first + k) s) (get_or l (cell (first + k) s - cell first 0) 0)) (suc (first + k)))
    n

agree_at : (l : List ℕ) (first n : ℕ) → T (agree l first n)
    → (t s : ℕ) → first ≤ t → t < first + n → s ≤ t → at t s ≡ get_or l (cell t s - cell first 0) 0
unfolding agree
agree_at l first n h t s from below k =
    let row : first + (t - first) ≡ t = omega arith in
    subst (λ m. at m s ≡ get_or l (cell m s - cell first 0) 0) row
    (eqb→eq (at (first + (t - first)) s) (get_or l (cell (first + (t - first)) s - cell first 0) 0)
    (every-T (λ j. eqb (at (first + (t - first)) j) (get_or l (cell (first + (t - first)) j - cell first 0) 0))
    (suc (first + (t - first)))
    (every-T (λ i. every (λ j. eqb (at (first + i) j) (get_or l (cell (first + i) j - cell first 0) 0))
    (suc (first + i)))
    n h (t - first) (omega arith))
    s (omega arith)))

low-agrees : T (agree low 0 middle_row)
unfolding agree every
low-agrees = tt

middle-agrees : T (agree middle middle_row (high_row - middle_row))
unfolding agree every
middle-agrees = tt

high-agrees : T (agree high high_row (suc largest - high_row))
unfolding agree every
high-agrees = tt

pub low-at : (t s : ℕ) → t < middle_row → s ≤ t → at t s ≡ get_or low (cell t s) 0
low-at t s h k =
    let from_zero : cell t s - 0 ≡ cell t s = omega arith in
    subst (λ i. at t s ≡ get_or low i 0) from_zero (agree_at low 0 middle_row low-agrees t s (omega arith) h k)

pub middle-at : (t s : ℕ) → middle_row ≤ t → t < high_row → s ≤ t
    → at t s ≡ get_or middle (cell t s - cell middle_row 0) 0
middle-at t s from h k = agree_at middle middle_row (high_row - middle_row) middle-agrees t s from h k

pub high-at : (t s : ℕ) → high_row ≤ t → t ≤ largest → s ≤ t → at t s ≡ get_or high (cell t s - cell high_row 0) 0
high-at t s from h k = agree_at high high_row (suc largest - high_row) high-agrees t s from (omega arith) k

pub at-over : (t s : ℕ) → t < s → at t s ≡ 0
at-over t s h = elim (dec_le s largest) [
  | yes k ↦ at-N t s (omega arith) k ∙ N-over t s h
  | no k ↦ at-column-outside t s (omega arith)
]
