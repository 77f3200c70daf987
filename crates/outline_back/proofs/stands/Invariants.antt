-- `outline_back::stands` meets its contract. The loop's invariant: the bytes of the piece that were compared stand in
-- the text. Assumes nothing.
use Rattle.outline_back.proofs.Standing.{Begun}
use Rattle.outline_back.proofs.stands.Given as goal

abbrev pub invariant-loop-i : goal.invariant-loop-i
invariant-loop-i l = Begun l.text l.at l.piece l.i
