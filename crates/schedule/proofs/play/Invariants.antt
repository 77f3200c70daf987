-- `schedule::play` meets its contract. The loop's invariant: no beat before `at` sets down with nothing in
-- hand, and `hand` is in hand there. The measure is what is left of the length, and each turn goes on by
-- one beat. Assumes nothing.
use Prim.Native.Nat.{◌-◌}
use lib.ListN.{length}
use Rattle.schedule.proofs.Scan.{Playing}
use Rattle.schedule.proofs.play.Given as goal

abbrev pub invariant-loop-at : goal.invariant-loop-at
invariant-loop-at l = Playing l.beats l.at l.hand

abbrev pub decreases-loop-at : goal.decreases-loop-at
decreases-loop-at l = length l.beats - l.at
