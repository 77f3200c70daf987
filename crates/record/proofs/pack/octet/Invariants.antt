-- `pack::octet` meets its contract. The loop's invariant: the byte is what the beats so far spell. Assumes
-- nothing.
use Rattle.record.proofs.Packing.{Octet}
use Rattle.record.proofs.pack.octet.Given as goal

abbrev pub invariant-loop-at : goal.invariant-loop-at
invariant-loop-at l = Octet l.beats l.from l.at l.byte
