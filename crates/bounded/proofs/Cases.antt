-- The definitions of specs/ on small inputs: a test that holds throughout and one that does not; a first place,
-- and none. Assumes nothing.
use mathlib.Core.Bool.{true, false}
use mathlib.Core.Path.{◌≡◌, refl}
use lib.Dec.{eqb, ltb}
use Rattle.bounded.specs.Bounded.{every, first_from, first}

-- 0, 1 and 2 are below 3, and 3 is not; below 0 there is nothing to test
all-below : every (λ k. ltb k 3) 3 ≡ true
unfolding every
all-below = refl

not_all_below : every (λ k. ltb k 3) 4 ≡ false
unfolding every
not_all_below = refl

-- a test that fails at 0 alone is looked at there too
not-at-0 : every (λ k. ltb 0 k) 4 ≡ false
unfolding every
not-at-0 = refl

none-to-test : every (λ k. ltb k 0) 0 ≡ true
unfolding every
none-to-test = refl

-- the first of several, and the bound where there is none
first-above-1 : first (λ k. ltb 1 k) 5 ≡ 2
unfolding first_from
first-above-1 = refl

first-nowhere : first (λ k. eqb k 7) 5 ≡ 5
unfolding first_from
first-nowhere = refl

-- from 3 on, what holds at 2 is passed over; three places from 3 on end before 6
from-3 : first_from (λ k. ltb 1 k) 3 3 ≡ 3
unfolding first_from
from-3 = refl

from-3-nowhere : first_from (λ k. eqb k 2) 3 3 ≡ 6
unfolding first_from
from-3-nowhere = refl
