-- `schedule::skip` meets its contract. The loop's invariant: the beats from `from` up to `at` are the beat that is
-- skipped. The measure is what is left of the length, and each turn goes on by one beat. Assumes nothing.
use Rattle.schedule.proofs.Skipping.{skip-end, skip_stop}
use Rattle.schedule.proofs.skip.Goals as goal

pub returns-then-beats-at : goal.returns-then-beats-at
returns-then-beats-at c =
    let args = c.args in
    skip-end args.beats.now args.from args.beat c.loop-at.at c.loop-at.invariant c.if-beats-at.true

pub returns-then-beats-at-2 : goal.returns-then-beats-at-2
returns-then-beats-at-2 c =
    let args = c.args in
    skip_stop args.beats.now args.from args.beat c.loop-at.at c.loop-at.invariant c.if-beats-at-2.true
