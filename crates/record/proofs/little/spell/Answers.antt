-- `little::spell` meets its contract. The loop's invariant: the bytes so far, and those of the rest, are the number's.
-- Assumes nothing.
use Rattle.record.proofs.Numerals.{spelled-more, spelled-all}
use Rattle.record.proofs.little.spell.Goals as goal

pub loop-byte-preserved : goal.loop-byte-preserved
loop-byte-preserved c = spelled-more c.loop-byte.invariant (rw c.loop-byte.auto.out (c.loop-byte-test.true))

pub returns : goal.returns
returns c = spelled-all c.loop-byte.invariant (rw c.loop-byte.auto.out c.loop-byte-test.false)
