-- How many forms there are, the manual, "A schedule" (sizes) and "How many forms". Definitions only.
--     largest     the largest number of tasks that a schedule takes up; the only place of the definitions that names it
--                 [A5]
--     most_beats  the beats of the longest schedule
--     N t s       the number of schedules of t ones and s zeros, by its addition rule; 0 where s is above t [N4]
--     C n k       how many ways there are to take k of n things, by Pascal's rule [N3]
--     counted     N for the counts that are allowed, and 0 for more tasks than the largest number
--     cell t s    where the count of t, s stands among the counts with s up to t, row after row
use Rattle.std.specs.Prelude.{cond, ℕ, zero, suc, ◌+◌, ◌*◌, ◌/◌, leb}

abbrev pub largest : ℕ
largest = 32

abbrev pub most_beats : ℕ
most_beats = largest + largest

unfoldable pub N : ℕ → ℕ → ℕ
N t zero = 1
N zero (suc s) = 0
N (suc t) (suc s) = cond (leb (suc s) (suc t)) (N t (suc s) + N (suc t) s) 0

unfoldable pub C : ℕ → ℕ → ℕ
C n zero = 1
C zero (suc k) = 0
C (suc n) (suc k) = C n k + C n (suc k)

unfoldable pub counted : ℕ → ℕ → ℕ
counted t s = cond (leb t largest) (N t s) 0

abbrev pub cell : ℕ → ℕ → ℕ
cell t s = t * (t + 1) / 2 + s
