-- `found_text` meets its contract: each part is written after the one before. Assumes nothing.
use native.Mathlib.Omega.{arith}
use Rattle.reason.specs.Explanation.{places_of}
use Rattle.reason_line.proofs.Writing.{written-found}
use Rattle.reason_line.proofs.found_text.Goals as goal

pub returns : goal.returns
returns c =
    written-found (omega (arith, c.requires)) c.args.found c.args.moved (places_of c.args.places)
    c.field-past_found.ensures.written c.field-past_moved.ensures.written c.changed_text.ensures
