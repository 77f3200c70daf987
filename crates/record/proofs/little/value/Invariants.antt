-- `little::value` meets its contract. The loop's invariant: the number is that of the bytes behind those that are
-- left. Assumes nothing.
use Rattle.record.proofs.Numerals.{Valued}
use Rattle.record.proofs.little.value.Given as goal

abbrev pub invariant-loop-byte : goal.invariant-loop-byte
invariant-loop-byte l = Valued l.src l.byte-iterator.iter.rest.now l.number
