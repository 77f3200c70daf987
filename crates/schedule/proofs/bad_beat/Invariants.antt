-- `schedule::bad_beat` meets its contract. The loop's invariant: all but the last `left` beats are 0 or 1. The measure
-- is `left`, which falls by one a turn. Assumes nothing.
use Rattle.schedule.proofs.Scan.{Sound}
use Rattle.schedule.proofs.bad_beat.Given as goal

abbrev pub invariant-loop-left : goal.invariant-loop-left
invariant-loop-left l = Sound l.beats l.left

abbrev pub decreases-loop-left : goal.decreases-loop-left
decreases-loop-left l = l.left
