-- `form::write` meets its contract: each turn writes one beat more of the form, from the last on, until what is left is
-- ones and then zeros. Assumes nothing.
use mathlib.Core.Path.{refl}
use native.Mathlib.Omega.{arith}
use lib.Dec.{ltb}
use Rattle.form.proofs.Writing.{behind-room, floor-some, floor-within, next-within, one-within, behind-turn, behind-all}
use Rattle.form.proofs.write.Goals as goal

pub overflow_sub-at : goal.overflow_sub-at
overflow_sub-at c = let room = behind-room c.loop-k.invariant c.loop-k-test.true in omega arith

pub overflow_sub-p : goal.overflow_sub-p
overflow_sub-p c = let room = behind-room c.loop-k.invariant c.loop-k-test.true in omega arith

pub overflow_sub-at-in-loop-k : goal.overflow_sub-at-in-loop-k
overflow_sub-at-in-loop-k c = let room = behind-room c.loop-k.invariant c.loop-k-test.true in omega arith

pub bounds-out-at : goal.bounds-out-at
bounds-out-at c = let room = behind-room c.loop-k.invariant c.loop-k-test.true in omega arith

pub overflow_sub-low : goal.overflow_sub-low
overflow_sub-low c = floor-some c.loop-k.invariant c.loop-k-test.true

pub overflow_sub-all : goal.overflow_sub-all
overflow_sub-all c = floor-within c.loop-k.invariant c.loop-k-test.true

pub overflow_sub-low-in-loop-k : goal.overflow_sub-low-in-loop-k
overflow_sub-low-in-loop-k c = next-within c.loop-k.invariant c.loop-k-test.true c.look-next.ensures

pub overflow_sub-p-in-loop-k : goal.overflow_sub-p-in-loop-k
overflow_sub-p-in-loop-k c =
    let here = c.loop-k in
    one-within here.invariant c.loop-k-test.true (ltb here.k here.low)

pub loop-k-smaller : goal.loop-k-smaller
loop-k-smaller c = let room = behind-room c.loop-k.invariant c.loop-k-test.true in omega arith

pub loop-k-preserved : goal.loop-k-preserved
loop-k-preserved c =
    let here = c.loop-k in
    behind-turn here.invariant c.loop-k-test.true (ltb here.k here.low) refl c.look-next.ensures
    c.pick-k.ensures c.pick-all.ensures c.pick-low.ensures

pub returns : goal.returns
returns c =
    let here = c.loop-k in
    behind-all here.invariant c.loop-k-test.false c.requires.1 c.requires.3 c.front.ensures
