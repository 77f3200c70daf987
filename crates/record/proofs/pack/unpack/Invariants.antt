-- `pack::unpack` meets its contract. The loop's invariant: the beats so far, and the bits left of the byte in hand.
-- Assumes nothing.
use lib.ListN.{length}
use Rattle.record.proofs.Packing.{Unpacked}
use Rattle.record.proofs.pack.unpack.Given as goal

abbrev pub invariant-loop-at : goal.invariant-loop-at
invariant-loop-at l = Unpacked l.src (length l.initial.out) l.at l.byte l.out
