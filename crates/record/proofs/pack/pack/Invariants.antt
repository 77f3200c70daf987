-- `pack::pack` meets its contract. The loop's invariant: the bytes so far are packed. Assumes nothing.
use Prim.Native.Nat.{◌*◌}
use lib.ListN.{length, drop}
use Rattle.record.specs.Bytes.{spell}
use Rattle.record.proofs.Packing.{Filled}
use Rattle.record.proofs.pack.pack.Given as goal

abbrev pub invariant-loop-at : goal.invariant-loop-at
invariant-loop-at l = Filled (λ j. spell 8 (drop (8 * j) l.beats)) (length l.initial.out) l.at l.out
