-- `tree::fill` meets its contract. The loop's invariant: the beats behind those that are left are words of trees,
-- whose roots are on the stack and whose links stand in the tables from `row` on. Assumes nothing.
use lib.ListN.{length}
use Rattle.tree.proofs.Planted.{Planted}
use Rattle.tree.proofs.fill.Given as goal

abbrev pub invariant-loop-beat : goal.invariant-loop-beat
invariant-loop-beat l =
    Planted l.beats (length l.initial.left) l.beat-iterator.iter.rest.now l.row l.stack l.left l.right l.parent
