-- `little::spell` meets its contract. The loop's invariant: the bytes so far, and those of the rest, are the number's.
-- Assumes nothing.
use lib.ListN.{length}
use Rattle.record.proofs.Numerals.{Spelled}
use Rattle.record.proofs.little.spell.Given as goal

abbrev pub invariant-loop-byte : goal.invariant-loop-byte
invariant-loop-byte l = Spelled l.number (length l.initial.out) l.byte-index l.rest l.out
