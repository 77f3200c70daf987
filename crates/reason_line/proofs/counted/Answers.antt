-- `reason_line::counted` meets its contract: each part is written after the one before. Assumes nothing.
use Rattle.reason_line.proofs.Writing.{written-counted}
use Rattle.reason_line.proofs.counted.Goals as goal

pub returns : goal.returns
returns c =
    let args = c.args in
    written-counted args.why args.asked args.found c.refused_text-past_text.ensures.written c.put-past_space.ensures
    c.field-past_asked.ensures.written c.decimal-past_found.ensures.written c.put.ensures
