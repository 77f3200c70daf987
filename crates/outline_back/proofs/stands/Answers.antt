-- `outline_back::stands` meets its contract. The loop's invariant: the bytes of the piece that were compared stand in
-- the text. Assumes nothing.
use Rattle.outline_back.proofs.Standing.{stood-short, stood-other, stood-whole}
use Rattle.outline_back.proofs.stands.Goals as goal

pub returns-then-text-at : goal.returns-then-text-at
returns-then-text-at c = stood-short c.if-text-at.true

pub returns-then-text-at-2 : goal.returns-then-text-at-2
returns-then-text-at-2 c = stood-other c.loop-i.i c.loop-i-test.true c.if-text-at-2.true

pub returns : goal.returns
returns c = stood-whole c.loop-i.invariant c.loop-i-test.false
