-- `changed_text` meets its contract: each place is written after the one before. Assumes nothing.
use native.Mathlib.Omega.{arith}
use Rattle.reason_line.proofs.Writing.{written-four}
use Rattle.reason_line.proofs.changed_text.Goals as goal

pub returns-in-Four : goal.returns-in-Four
returns-in-Four c =
    rw c.in-Four.is
    (written-four (omega (arith, c.requires)) _ _ _ _ c.field-past_a.ensures.written c.field-past_b.ensures.written
    c.two_places-in-Four.ensures)
