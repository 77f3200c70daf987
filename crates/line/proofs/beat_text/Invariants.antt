-- `line::beat_text` meets its contract: the first i beats are written. Assumes nothing.
use mathlib.Core.Path.{◌≡◌}
use lib.Seq.{paste}
use Rattle.line.proofs.Writing.{glyphs}
use Rattle.line.proofs.beat_text.Given as goal

abbrev pub invariant-loop-i : goal.invariant-loop-i
invariant-loop-i l = l.out ≡ paste l.initial.out l.at (glyphs l.beats) l.i
