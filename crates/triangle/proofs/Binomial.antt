-- The closed formula for N: C(t+s, t) − C(t+s, t+1).
--     paths t s       how many ways there are to order t ones and s zeros, by the last of them
--     paths-choose    it is C(t+s, t)
--     N-paths         the schedules of t, s, and as many orders as t+1 ones and s−1 zeros have,
--                     are all the orders of t, s
--     N-choose        N(t, s) + C(t+s, t+1) = C(t+s, t)
-- Assumes nothing.
use mathlib.Core.Path.{◌≡◌, refl, ◌∙◌, ap, sym}
use Prim.Native.Nat.{ℕ, zero, suc, ◌+◌, ◌≤◌, ◌<◌}
use native.Mathlib.Nat.{add-zero}
use native.Mathlib.Omega.{arith}
use native.Mathlib.Decide.{dec_le}
use Rattle.triangle.specs.Count.{N, C}
use Rattle.triangle.proofs.Count.{N-zero, N-over, N-add}

paths : ℕ → ℕ → ℕ
paths zero s = 1
paths (suc t) zero = 1
paths (suc t) (suc s) = paths t (suc s) + paths (suc t) s

paths-none : (t : ℕ) → paths t 0 ≡ 1
unfolding paths
paths-none zero = refl
paths-none (suc t) = refl

paths-turn : (t s : ℕ) → paths t s ≡ paths s t
unfolding paths
paths-turn zero s = sym (paths-none s)
paths-turn (suc t) zero = refl
paths-turn (suc t) (suc s) = omega (arith, paths-turn t (suc s), paths-turn (suc t) s)

C-over : (n k : ℕ) → n < k → C n k ≡ 0
unfolding C
C-over n zero h = absurd (omega arith)
C-over zero (suc k) h = refl
C-over (suc n) (suc k) h = omega (arith, C-over n k (omega arith), C-over n (suc k) (omega arith))

C-all : (n : ℕ) → C n n ≡ 1
unfolding C
C-all zero = refl
C-all (suc n) = omega (arith, C-all n, C-over n (suc n) (omega arith))

paths-choose : (t s n : ℕ) → n ≡ t + s → paths t s ≡ C n t
unfolding paths C
paths-choose zero s n e = refl
paths-choose (suc t) zero n e =
    let whole : suc t ≡ n = omega arith in
    sym (C-all (suc t)) ∙ ap (λ (m : ℕ). C m (suc t)) whole
paths-choose (suc t) (suc s) zero e = absurd (omega arith)
paths-choose (suc t) (suc s) (suc n) e =
    omega (arith, paths-choose t (suc s) n (omega arith), paths-choose (suc t) s n (omega arith))

N-paths : (t s : ℕ) → s ≤ t → N t (suc s) + paths (suc t) s ≡ paths t (suc s)
unfolding paths
N-paths zero zero h = omega (arith, N-over 0 1 (omega arith))
N-paths zero (suc s) h = absurd (omega arith)
N-paths (suc t) zero h =
    omega (arith, N-add t 0 (omega arith), N-zero (suc t), N-paths t 0 (omega arith), paths-none (suc t))
N-paths (suc t) (suc s) h = inside (N-paths (suc t) s (omega arith)) (N-paths t (suc s)) (dec_le (suc s) t)
  where
    inside : N (suc t) (suc s) + paths (suc (suc t)) s ≡ paths (suc t) (suc s)
        → (suc s ≤ t → N t (suc (suc s)) + paths (suc t) (suc s) ≡ paths t (suc (suc s)))
        → Dec (suc s ≤ t)
        → N (suc t) (suc (suc s)) + paths (suc (suc t)) (suc s) ≡ paths (suc t) (suc (suc s))
    inside left above (yes k) = omega (arith, left, above k, N-add t (suc s) k)
    inside left above (no k) =
        let e : s ≡ t = omega arith in
        rw e (omega (arith, N-over (suc t) (suc (suc t)) (omega arith), paths-turn (suc (suc t)) (suc t)))

pub N-choose : (t s : ℕ) → s ≤ t → N t s + C (t + s) (suc t) ≡ C (t + s) t
N-choose t zero h = rw (add-zero t) (omega (arith, N-zero t, C-all t, C-over t (suc t) (omega arith)))
N-choose t (suc s) h = omega (
  arith,
  N-paths t s (omega arith),
  paths-choose t (suc s) (t + suc s) refl,
  paths-choose (suc t) s (t + suc s) (omega arith),
)
