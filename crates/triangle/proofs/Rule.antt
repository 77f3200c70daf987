-- The table holds the counts: its addition rule is tested once over the whole table, and a law turns the test into N
-- at each entry [N6] [F2].
--     ruled, sized, bounded     the tests, which the check computes: each entry follows from its neighbours; each row
--                               is as long as the table; no entry is above the last [N6] [F2]
--     at-N                      the entry at t, s is N(t, s) [N6]
--     at-row-outside, at-column-outside     outside the table it is 0
--     at-counted                so it is `counted` everywhere
--     N-most, N-fits            no N(t, s) of an allowed t is above the last, which fits 64 bits
-- Assumes nothing.
use mathlib.Core.Bool.{Bool, cond}
use mathlib.Core.List.{List, []}
use mathlib.Core.Path.{◌≡◌, ◌∙◌, sym}
use Prim.Native.Nat.{ℕ, zero, suc, ◌+◌, ◌^◌, ◌<◌, ◌≤◌}
use native.Mathlib.Omega.{arith}
use native.Mathlib.Decide.{dec_le, dec_lt}
use borrow.Author.Tests.{le-leb, lt-leb}
use lib.Dec.{T, eqb, leb, eqb→eq, leb→le}
use lib.ListN.{length, get_or, get_or-eq_default}
use Rattle.triangle.specs.Count.{N, largest, counted}
use Rattle.triangle.specs.Table.{table, at}
use Rattle.bounded.specs.Bounded.{every}
use Rattle.bounded.proofs.Every.{every-T}
use Rattle.triangle.proofs.Count.{N-over}

-- what the addition rule says of the entry at t, s, from the table's other entries
rule : ℕ → ℕ → ℕ
rule t zero = 1
rule zero (suc s) = 0
rule (suc t) (suc s) = cond (leb (suc s) (suc t)) (at t (suc s) + at (suc t) s) 0

throughout : (ℕ → ℕ → Bool) → Bool
throughout f = every (λ t. every (λ s. f t s) (suc largest)) (suc largest)

ruled : T (throughout (λ t s. eqb (at t s) (rule t s)))
unfolding throughout rule every
ruled = tt

sized : T (eqb (length table) (suc largest))
    × T (every (λ t. eqb (length (get_or table t [])) (suc largest)) (suc largest))
unfolding every
sized = (tt, tt)

-- the last entry
abbrev pub most : ℕ
most = at largest largest

bounded : T (throughout (λ t s. leb (at t s) most))
unfolding throughout every
bounded = tt

throughout-at : (f : ℕ → ℕ → Bool) → T (throughout f) → (t s : ℕ) → t ≤ largest → s ≤ largest → T (f t s)
unfolding throughout
throughout-at f h t s k l =
    every-T (f t) (suc largest) (every-T (λ i. every (f i) (suc largest)) (suc largest) h t (omega arith)) s
    (omega arith)

at-rule : (t s : ℕ) → t ≤ largest → s ≤ largest → at t s ≡ rule t s
at-rule t s h k = eqb→eq (at t s) (rule t s) (throughout-at (λ i j. eqb (at i j) (rule i j)) ruled t s h k)

pub at-N : (t s : ℕ) → t ≤ largest → s ≤ largest → at t s ≡ N t s
unfolding N rule
at-N t zero h k = at-rule t zero h k
at-N zero (suc s) h k = at-rule zero (suc s) h k
at-N (suc t) (suc s) h k =
    at-rule (suc t) (suc s) h k ∙ rw (at-N t (suc s) (omega arith) k, at-N (suc t) s h (omega arith))

-- outside a list of n rows of n numbers each there is nothing
row-outside : (l : List (List ℕ)) (n : ℕ) → length l ≤ n → (t s : ℕ) → n ≤ t → get_or (get_or l t []) s 0 ≡ 0
row-outside l n h t s k = rw (get_or-eq_default l [] {n = t} (omega arith))

column-outside : (l : List (List ℕ)) (n : ℕ) → length l ≤ n → T (every (λ t. eqb (length (get_or l t [])) n) n)
    → (t s : ℕ) → n ≤ s → get_or (get_or l t []) s 0 ≡ 0
column-outside l n h f t s k = elim (dec_lt t n) [
  | yes inside ↦ get_or-eq_default (get_or l t []) 0 (short inside)
  | no outside ↦ row-outside l n h t s (omega arith)
]
  where
    short : t < n → length (get_or l t []) ≤ s
    short inside =
        omega (arith, eqb→eq (length (get_or l t [])) n (every-T (λ i. eqb (length (get_or l i [])) n) n f t inside))

pub at-row-outside : (t s : ℕ) → largest < t → at t s ≡ 0
at-row-outside t s h = row-outside table (suc largest) (omega arith) t s h

pub at-column-outside : (t s : ℕ) → largest < s → at t s ≡ 0
at-column-outside t s h = column-outside table (suc largest) (omega arith) sized.1 t s h

pub at-counted : (t s : ℕ) → at t s ≡ counted t s
unfolding counted
at-counted t s = elim (dec_le t largest) [
  | yes h ↦ inside h
  | no h ↦ at-row-outside t s (omega arith) ∙ simp (lt-leb t largest (omega arith))
]
  where
    inside : t ≤ largest → at t s ≡ cond (leb t largest) (N t s) 0
    inside h =
        simp (le-leb t largest h)
        (elim (dec_le s largest) [
          | yes k ↦ at-N t s h k
          | no k ↦ at-column-outside t s (omega arith) ∙ sym (N-over t s (omega arith))
        ])

pub N-most : (t s : ℕ) → t ≤ largest → N t s ≤ most
N-most t s h = elim (dec_le s largest) [ yes k ↦ below k | no k ↦ omega (arith, N-over t s (omega arith)) ]
  where
    below : s ≤ largest → N t s ≤ most
    below k = rw (at-N t s h k) at (leb→le (at t s) most (throughout-at (λ i j. leb (at i j) most) bounded t s h k))

pub N-fits : (t s : ℕ) → t ≤ largest → N t s < 2 ^ 64
N-fits t s h = omega (arith, N-most t s h)
