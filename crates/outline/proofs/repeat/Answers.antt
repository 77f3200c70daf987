-- `outline::repeat` meets its contract: a byte more each turn; what it reads stands before all that it writes.
-- Assumes nothing.
use mathlib.Core.Path.{◌∙◌}
use Prim.Native.Nat.{◌+◌}
use native.Mathlib.Omega.{arith}
use lib.ListN.{length-set, get_or}
use Rattle.outline.proofs.Keeping.{repeated-more}
use Rattle.outline.proofs.repeat.Goals as goal

pub loop-i-preserved : goal.loop-i-preserved
loop-i-preserved c =
    let inv = c.loop-i.invariant in
    let args = c.args in
    let byte = get_or c.loop-i.text (args.from + c.loop-i.i) 0 in
    let room = c.requires in (
      omega arith,
      length-set c.loop-i.text (args.to + c.loop-i.i) byte ∙ inv.1,
      repeated-more args.text.now args.from args.to room.0 room.1 (omega arith) inv.1 inv.2,
    )
