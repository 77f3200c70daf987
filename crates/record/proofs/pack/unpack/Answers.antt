-- `pack::unpack` meets its contract. The loop's invariant: the beats so far, and the bits left of the byte in hand.
-- Assumes nothing.
use native.Mathlib.Omega.{arith}
use Rattle.record.proofs.Numerals.{Bytes}
use Rattle.record.proofs.Packing.{unpacked-start, unpacked-more, unpacked-all}
use Rattle.record.proofs.pack.unpack.Goals as goal

pub loop-at-init : goal.loop-at-init
loop-at-init c = let args = c.args in unpacked-start args.src.now args.out.now

pub loop-at-preserved : goal.loop-at-preserved
loop-at-preserved c =
    let bytes : Bytes c.args.src.now = λ i. omega (arith, c.type_inv.src i) in
    unpacked-more (bytes) c.loop-at.invariant (rw c.loop-at.auto.out c.loop-at-test.true) c.current-from.result
    c.current-from.ensures

pub returns : goal.returns
returns c =
    let ended : Bytes c.args.src.now = λ i. omega (arith, c.type_inv.src i) in
    record {
      value = (unpacked-all (ended) c.loop-at.invariant (rw c.loop-at.auto.out c.loop-at-test.false)).0;
      out_after =
          (unpacked-all (ended) c.loop-at.invariant (rw c.loop-at.auto.out c.loop-at-test.false)).1;
    }
