-- `two_places` meets its contract: each place is written after the one before. Assumes nothing.
use native.Mathlib.Omega.{arith}
use Rattle.reason_line.proofs.Writing.{written-two}
use Rattle.reason_line.proofs.two_places.Goals as goal

pub returns : goal.returns
returns c =
    written-two (omega (arith, c.requires)) c.args.a c.args.b c.field-past_a.ensures.written
    c.decimal-past_b.ensures.written c.put.ensures
