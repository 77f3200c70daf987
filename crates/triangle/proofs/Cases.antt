-- The definitions of specs/ on small inputs: for each one value and another. Assumes nothing.
use mathlib.Core.Path.{◌≡◌, refl}
use Prim.Native.Nat.{suc}
use Rattle.triangle.specs.Count.{N, C, largest, counted, cell}
use Rattle.triangle.specs.Table.{at}

-- five schedules of 3, 2, and none that sets down more than it takes up
five : N 3 2 ≡ 5
unfolding N
five = refl

none : N 2 3 ≡ 0
unfolding N
none = refl

-- ten ways to take two of five things, and none to take five of two
ten-ways : C 5 2 ≡ 10
unfolding C
ten-ways = refl

no_way : C 2 5 ≡ 0
unfolding C
no_way = refl

-- the largest count, and one past it
counted-largest : counted largest 1 ≡ largest
unfolding counted N
counted-largest = refl

not-counted : counted (suc largest) 1 ≡ 0
unfolding counted
not-counted = refl

-- two entries of the table
entry-28 : at 5 3 ≡ 28
entry-28 = refl

entry-572 : at 8 5 ≡ 572
entry-572 = refl

-- the count of (2,1) stands after those of (0,0), (1,0), (1,1) and (2,0); that of (0,0) is the first
place-4 : cell 2 1 ≡ 4
place-4 = refl

place-0 : cell 0 0 ≡ 0
place-0 = refl
