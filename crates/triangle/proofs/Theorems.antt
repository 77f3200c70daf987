-- What the manual, "How many forms", says of the counts, each once over t and s [P10].
--     one-without-zeros  N(t, 0) = 1 [N2]
--     closed-formula     N(t, s) = C(t+s, t) − C(t+s, t+1) for s from 1 to t [N3]
--     addition-rule      N(t, s) = N(t−1, s) + N(t, s−1) for s from 1 to t [N4]
--     none_above         N is 0 where s is above t [N5]
--     largest-counts     N(32, 32) = N(32, 31) = 55,534,064,877,048,198, and no allowed pair of counts has more [N8]
--     fits-64-bits       every count of an allowed t fits the eight-byte number [N9]
-- That N(t, s) is how many schedules there are is a theorem of the crate `schedule`, which defines what a schedule is.
-- Assumes nothing.
use mathlib.Core.Path.{◌≡◌, sym}
use Prim.Native.Nat.{ℕ, zero, suc, ◌+◌, ◌-◌, ◌^◌, ◌≤◌, ◌<◌}
use native.Mathlib.Numerals.{sub-one}
use native.Mathlib.Omega.{arith}
use Rattle.triangle.specs.Count.{N, C, largest}
use Rattle.triangle.proofs.Count.{N-zero, N-over, N-add}
use Rattle.triangle.proofs.Binomial.{N-choose}
use Rattle.triangle.proofs.Rule.{at-N, N-most, N-fits}

pub closed-formula : (t s : ℕ) → 1 ≤ s → s ≤ t → N t s ≡ C (t + s) t - C (t + s) (suc t)
closed-formula t s l h = omega (arith, N-choose t s h)

pub addition-rule : (t s : ℕ) → 1 ≤ s → s ≤ t → N t s ≡ N (t - 1) s + N t (s - 1)
addition-rule zero s l h = absurd (omega arith)
addition-rule (suc t) zero l h = absurd (omega arith)
addition-rule (suc t) (suc s) l h = rw (sub-one, sub-one) (N-add t s (omega arith))

pub one-without-zeros : (t : ℕ) → N t 0 ≡ 1
one-without-zeros = N-zero

pub none_above : (t s : ℕ) → t < s → N t s ≡ 0
none_above = N-over

pub largest-counts : (N largest largest ≡ 55534064877048198) × (N largest (largest - 1) ≡ 55534064877048198)
    × ((t s : ℕ) → t ≤ largest → N t s ≤ 55534064877048198)
largest-counts = (
  sym (at-N largest largest (omega arith) (omega arith)),
  sym (at-N largest (largest - 1) (omega arith) (omega arith)),
  N-most,
)

pub fits-64-bits : (t s : ℕ) → t ≤ largest → N t s < 2 ^ 64
fits-64-bits = N-fits
