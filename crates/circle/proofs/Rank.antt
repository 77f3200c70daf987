-- The rank of a schedule, by which the circle is counted: a number computed from the last beat towards the first,
-- source 000, section 5. Lists are written last beat first here.
--     raise t s v     the rank with one more 1 after a list of rank v; t, s are the counts with that 1
--     rank r          the rank; `rank_of b` of a list written first beat first
--     rank_below      it is below N of the counts
--     rank_same       two schedules of the same counts with the same rank are equal
-- That the rank is the number from t ones then s zeros is `top-number-rank` in proofs/Places of the crate `number`.
-- Assumes nothing.
use mathlib.Core.List.{List, [], ◌∷◌, reverse}
use mathlib.Core.Path.{◌≡◌, refl, ◌∙◌, ap, sym}
use Prim.Native.Nat.{ℕ, zero, suc, pred, ◌+◌, ◌-◌, ◌≤◌, ◌<◌}
use native.Mathlib.Omega.{arith}
use Rattle.triangle.specs.Count.{N}
use Rattle.triangle.proofs.Count.{N-add, N-zero, N-pos}
use Rattle.schedule.specs.Schedule.{ones, zeros}
use Rattle.schedule.proofs.Hand.{Turned, start, down, up, level}

unfoldable pub raise : ℕ → ℕ → ℕ → ℕ
raise t s zero = N t s - 1
raise t s (suc v) = N t (pred s) + v

unfoldable pub rank : List ℕ → ℕ
rank [] = 0
rank (zero ∷ r) = rank r
rank (suc x ∷ r) = raise (suc (ones r)) (zeros r) (rank r)

abbrev pub rank_of : List ℕ → ℕ
rank_of b = rank (reverse b)

raise-below : (t s v : ℕ) → s ≤ t → v < N t s → raise (suc t) s v < N (suc t) s
unfolding raise
raise-below t s zero h k = omega (arith, N-pos (suc t) s (omega arith))
raise-below t zero (suc v) h k = omega (arith, N-zero t)
raise-below t (suc s) (suc v) h k = omega (arith, N-add t s (omega arith))

pub rank_below : {r : List ℕ} → Turned r → rank r < N (ones r) (zeros r)
unfolding ones zeros rank
rank_below start = omega (arith, N-zero 0)
rank_below (down {r} h k) = grown (ones r) (zeros r) (rank r) h (rank_below k)
  where
    grown : (t s v : ℕ) → s < t → v < N t s → v < N t (suc s)
    grown (suc t) s v h k = omega (arith, N-add t s (omega arith))
    grown zero s v h k = omega arith
rank_below (up {r} k) = raise-below (ones r) (zeros r) (rank r) (level k) (rank_below k)

raise-same : (t s v w : ℕ) → s ≤ t → v < N t s → w < N t s → raise (suc t) s v ≡ raise (suc t) s w → v ≡ w
unfolding raise
raise-same t zero v w h j k e = omega (arith, N-zero t)
raise-same t (suc s) zero zero h j k e = refl
raise-same t (suc s) zero (suc w) h j k e = omega (arith, N-add t s (omega arith))
raise-same t (suc s) (suc v) zero h j k e = omega (arith, N-add t s (omega arith))
raise-same t (suc s) (suc v) (suc w) h j k e = omega arith

-- a list that ends in a 0 and one that ends in a 1 have ranks apart
raise-apart : (t s v w : ℕ) → suc s ≤ t → v < N (suc t) s → w < N t (suc s) → v ≡ raise (suc t) (suc s) w → ⊥
unfolding raise
raise-apart t s v zero h j k e = omega (arith, N-add t s (omega arith))
raise-apart t s v (suc w) h j k e = omega arith

pub rank_same : {r q : List ℕ} → Turned r → Turned q → ones r ≡ ones q → zeros r ≡ zeros q → rank r ≡ rank q → r ≡ q
unfolding ones zeros rank
rank_same start start o z n = refl
rank_same start (down h k) o z n = absurd (omega arith)
rank_same start (up k) o z n = absurd (omega arith)
rank_same (down h k) start o z n = absurd (omega arith)
rank_same (up k) start o z n = absurd (omega arith)
rank_same (down {r} h k) (down {r = q} h' k') o z n = ap (λ (l : List ℕ). 0 ∷ l) (rank_same k k' o (omega arith) n)
rank_same (up {r} k) (up {r = q} k') o z n =
    let o' : ones r ≡ ones q = omega arith in
    let c : N (ones r) (zeros r) ≡ N (ones q) (zeros q) = cc in
    ap (λ (l : List ℕ). 1 ∷ l)
    (rank_same k k' o' z
    (raise-same (ones r) (zeros r) (rank r) (rank q) (level k) (rank_below k) (omega (arith, rank_below k'))
    (n ∙ rw (o', z))))
rank_same (down {r} h k) (up {r = q} k') o z n =
    absurd (raise-apart (ones q) (zeros r) (rank r) (rank q) (omega (arith, level k')) (rw (← o) (rank_below k))
    (rw z (rank_below k')) (n ∙ rw z))
rank_same (up {r} k) (down {r = q} h k') o z n =
    absurd (raise-apart (ones r) (zeros q) (rank q) (rank r) (omega (arith, level k)) (rw o (rank_below k'))
    (rw (← z) (rank_below k)) (sym n ∙ rw z))
