-- `line::refused` meets its contract: the line feed is written after the text. Assumes nothing.
use native.Mathlib.Omega.{arith}
use Rattle.text.proofs.Writing.{written_then}
use Rattle.line.proofs.refused.Goals as goal

pub returns : goal.returns
returns c = written_then (omega arith) c.refused_text-past_text.ensures.written c.put.ensures
