-- `tree_back::trace` meets its contract. The loop's invariant: the beats so far begin the word of every tree that the
-- tables have, and with what is still to be read they make one. The stack's last item is the node that waits last.
-- Assumes nothing.
use mathlib.Core.List.{reverse}
use lib.ListN.{length}
use Rattle.tree_back.proofs.Tracing.{Traced-to}
use Rattle.tree_back.proofs.trace.Given as goal

abbrev pub invariant-loop-beat : goal.invariant-loop-beat
invariant-loop-beat l =
    Traced-to (length l.left) l.left l.right l.parent l.beat-index l.row l.own l.child (reverse l.stack) l.beats
