-- `pack::pack` meets its contract. The loop's invariant: the bytes so far are packed. Assumes nothing.
use Rattle.record.proofs.Packing.{filled-start, filled_more}
use Rattle.record.proofs.pack.pack.Goals as goal

pub loop-at-init : goal.loop-at-init
loop-at-init c = let args = c.args in filled-start _ args.out.now

pub loop-at-preserved : goal.loop-at-preserved
loop-at-preserved c =
    filled_more c.loop-at.invariant (rw c.loop-at.auto.out c.loop-at-test.true) c.octet.result c.octet.ensures
