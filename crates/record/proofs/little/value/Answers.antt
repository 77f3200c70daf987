-- `little::value` meets its contract. The loop's invariant: the number is that of the bytes behind those that are
-- left. Assumes nothing.
use native.Mathlib.Omega.{arith}
use Rattle.record.proofs.Numerals.{Bytes, valued-start, valued-more, valued-small, valued-all}
use Rattle.record.proofs.little.value.Goals as goal

pub loop-byte-init : goal.loop-byte-init
loop-byte-init c = valued-start _ _ (cc)

pub overflow_mul-number : goal.overflow_mul-number
overflow_mul-number c =
    let bytes : Bytes c.args.src.now = λ i. omega (arith, c.type_inv.src i) in
    let small = valued-small c.loop-byte.invariant _ _ c.in-Some.ensures.steps bytes c.requires in
    omega (arith, small)

pub overflow_add-number : goal.overflow_add-number
overflow_add-number c =
    let bytes : Bytes c.args.src.now = λ i. omega (arith, c.type_inv.src i) in
    let small = valued-small c.loop-byte.invariant _ _ c.in-Some.ensures.steps bytes c.requires in
    omega (arith, small)

pub loop-byte-preserved : goal.loop-byte-preserved
loop-byte-preserved c = rw c.from.ensures (valued-more c.loop-byte.invariant _ _ c.in-Some.ensures.steps)

pub returns : goal.returns
returns c = valued-all c.loop-byte.invariant c.in-None.ensures.steps.0
