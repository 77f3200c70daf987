-- `pack::octet` meets its contract. The loop's invariant: the byte is what the beats so far spell. Assumes
-- nothing.
use Prim.Native.Nat.{◌+◌}
use native.Mathlib.Omega.{arith}
use Rattle.record.proofs.Packing.{octet-start, octet-small, octet-more}
use Rattle.record.proofs.pack.octet.Goals as goal

pub loop-at-init : goal.loop-at-init
loop-at-init c = octet-start c.args.beats.now c.args.from

pub overflow_mul-byte : goal.overflow_mul-byte
overflow_mul-byte c = omega (arith, octet-small c.requires.1 c.loop-at.invariant c.loop-at-test.true)

pub overflow_add-byte : goal.overflow_add-byte
overflow_add-byte c =
    omega (
      arith,
      octet-small c.requires.1 c.loop-at.invariant c.loop-at-test.true,
      c.beat.ensures,
      c.requires.1 (c.args.from + c.loop-at.at),
    )

pub loop-at-preserved : goal.loop-at-preserved
loop-at-preserved c =
    octet-more c.requires.1 c.loop-at.invariant c.loop-at-test.true
    c.beat.result c.beat.ensures
