-- Laws of the counts N, each once over t and s.
--     N-zero     N(t, 0) is 1
--     N-over     N(t, s) is 0 where s is above t
--     N-add      the addition rule
--     N-pos      there is a form for each pair of counts with s up to t
--     counted-N  up to the largest count `counted` is N
-- Assumes nothing.
use mathlib.Core.Path.{◌≡◌, refl}
use Prim.Native.Nat.{ℕ, zero, suc, ◌+◌, ◌≤◌, ◌<◌}
use native.Mathlib.Omega.{arith}
use borrow.Author.Tests.{le-leb, lt-leb}
use Rattle.triangle.specs.Count.{N, largest, counted}

pub N-zero : (t : ℕ) → N t 0 ≡ 1
unfolding N
N-zero t = refl

pub N-over : (t s : ℕ) → t < s → N t s ≡ 0
unfolding N
N-over t zero h = absurd (omega arith)
N-over zero (suc s) h = refl
N-over (suc t) (suc s) h = simp (lt-leb (suc s) (suc t) h)

pub N-add : (t s : ℕ) → s ≤ t → N (suc t) (suc s) ≡ N t (suc s) + N (suc t) s
unfolding N
N-add t s h = simp (le-leb (suc s) (suc t) (omega arith))

pub N-pos : (t s : ℕ) → s ≤ t → 1 ≤ N t s
N-pos t zero h = omega (arith, N-zero t)
N-pos zero (suc s) h = omega arith
N-pos (suc t) (suc s) h = omega (arith, N-add t s (omega arith), N-pos (suc t) s (omega arith))

pub counted-N : (t s : ℕ) → t ≤ largest → counted t s ≡ N t s
unfolding counted
counted-N t s h = simp (le-leb t largest h)
