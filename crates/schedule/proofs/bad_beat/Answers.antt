-- `schedule::bad_beat` meets its contract. The loop's invariant: all but the last `left` beats are 0 or 1. The measure
-- is `left`, which falls by one a turn. Assumes nothing.
use Rattle.schedule.proofs.Scan.{sound-end, sound-stop}
use Rattle.schedule.proofs.bad_beat.Goals as goal

pub returns-then-left-eq0 : goal.returns-then-left-eq0
returns-then-left-eq0 c = sound-end c.args.beats.now c.loop-left.left c.loop-left.invariant c.if-left-eq0.true

pub returns-then-beats-at-gt1 : goal.returns-then-beats-at-gt1
returns-then-beats-at-gt1 c =
    sound-stop c.args.beats.now c.loop-left.left c.loop-left.invariant c.if-left-eq0.false
    c.if-beats-at-gt1.true
