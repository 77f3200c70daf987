-- The definitions of specs/ on small inputs: counts that are allowed, and counts that are refused for each part.
-- Assumes nothing.
use mathlib.Core.Path.{◌≡◌, refl}
use Prim.Native.Nat.{suc}
use native.Mathlib.Omega.{arith}
use Rattle.std.proofs.Common.{Ok, Err}
use Rattle.refusal.specs.declared.Refusal.TheVariants.{TooManyTasks, MoreDownThanUp}
use Rattle.refusal.specs.Rows.{judge}
use Rattle.triangle.specs.Count.{N, largest}
use Rattle.counts.specs.Counts.{Allowed, count_rows, counting}

-- the largest counts; one task more; one set down more than is taken up
allows-largest : Allowed largest largest
allows-largest = (omega arith, omega arith)

too_many : Allowed (suc largest) 0 → ⊥
too_many a = omega (arith, a.0)

more-down-2-3 : Allowed 2 3 → ⊥
more-down-2-3 a = omega (arith, a.1)

-- the same of their order: 1 is tried before 2
rows-largest : judge (count_rows largest largest) ≡ Ok tt
rows-largest = refl

rows-200-201 : judge (count_rows 200 201) ≡ Err TooManyTasks
rows-200-201 = refl

rows-2-3 : judge (count_rows 2 3) ≡ Err MoreDownThanUp
rows-2-3 = refl

counting-3-2 : counting 3 2 ≡ Ok 5
unfolding N
counting-3-2 = refl

counting-2-3 : counting 2 3 ≡ Err MoreDownThanUp
counting-2-3 = refl
