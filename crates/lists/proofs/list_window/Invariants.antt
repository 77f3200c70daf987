-- `list_window` meets its contract. The loop's invariant is `Going`: the records before `at` are listed, and whatever
-- the rest of the pass lists follows their lines. The measure is the bytes after `at`: every record that is passed over
-- takes some. Assumes nothing.
use mathlib.Core.Path.{◌≡◌}
use Prim.Native.Nat.{◌-◌}
use lib.ListN.{length}
use Rattle.stream.proofs.Going.{Going}
use Rattle.lists.specs.Listed.{line_of, widest}
use Rattle.lists.proofs.list_window.Given as goal

abbrev pub invariant-loop-table : goal.invariant-loop-table
invariant-loop-table l =
    (length l.room ≡ length l.initial.room)
    × Going (line_of l.which) widest l.ended l.src l.initial.text l.at l.put l.text

abbrev pub decreases-loop-table : goal.decreases-loop-table
decreases-loop-table l = length l.src - l.at
