-- `outline::repeat` meets its contract: a byte more each turn; what it reads stands before all that it writes.
-- Assumes nothing.
use mathlib.Core.Path.{◌≡◌}
use Prim.Native.Nat.{◌+◌, ◌-◌, ◌≤◌}
use lib.ListN.{length}
use Rattle.text.specs.Written.{Written}
use Rattle.outline.specs.Writing.{part}
use Rattle.outline.proofs.repeat.Given as goal

abbrev pub invariant-loop-i : goal.invariant-loop-i
invariant-loop-i l =
    (l.i ≤ l.long) × (length l.text ≡ length l.initial.text)
    × Written l.to (part l.initial.text l.from l.i) l.initial.text l.text (l.to + l.i)

abbrev pub decreases-loop-i : goal.decreases-loop-i
decreases-loop-i l = l.long - l.i
