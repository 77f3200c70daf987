-- `schedule::play` meets its contract. The loop's invariant: no beat before `at` sets down with nothing in
-- hand, and `hand` is in hand there. The measure is what is left of the length, and each turn goes on by
-- one beat. Assumes nothing.
use mathlib.Core.Path.{refl}
use Prim.Native.Nat.{◌≤◌}
use native.Mathlib.Omega.{arith}
use lib.ListN.{get_or}
use Rattle.schedule.proofs.Scan.{play-start, play-turn, play-end, play-stop}
use Rattle.schedule.proofs.play.Goals as goal

pub loop-at-init : goal.loop-at-init
loop-at-init c = play-start c.args.beats.now

pub loop-at-preserved : goal.loop-at-preserved
loop-at-preserved c =
    let beat : get_or c.args.beats.now c.loop-at.at 0 ≤ 1 = c.requires c.loop-at.at (omega arith) in
    let b = c.args.beats.now in
    play-turn b c.loop-at.at c.loop-at.hand c.loop-at.invariant (get_or b c.loop-at.at 0) refl (omega arith)
    (beat) c.if-hand-up-eq0.false

pub returns-then-at-beats : goal.returns-then-at-beats
returns-then-at-beats c =
    record {
      at_value = play-end c.args.beats.now c.loop-at.at c.loop-at.hand c.loop-at.invariant c.if-at-beats.true;
      beats_value = c.loop-at.invariant.level;
    }

pub returns-then-hand-up-eq0 : goal.returns-then-hand-up-eq0
returns-then-hand-up-eq0 c =
    record {
      at_value = play-stop c.args.beats.now c.loop-at.at c.loop-at.hand c.loop-at.invariant (omega arith)
          c.if-hand-up-eq0.true;
      beats_value = c.loop-at.invariant.level;
    }
