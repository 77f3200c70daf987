-- `schedule::skip` meets its contract. The loop's invariant: the beats from `from` up to `at` are the beat that is
-- skipped. The measure is what is left of the length, and each turn goes on by one beat. Assumes nothing.
use Prim.Native.Nat.{◌-◌}
use lib.ListN.{length}
use Rattle.schedule.proofs.Skipping.{Skipping}
use Rattle.schedule.proofs.skip.Given as goal

abbrev pub invariant-loop-at : goal.invariant-loop-at
invariant-loop-at l = Skipping l.beats l.from l.beat l.at

abbrev pub decreases-loop-at : goal.decreases-loop-at
decreases-loop-at l = length l.beats - l.at
