-- `set_apart` meets its contract: the text of a refusal, and two line feeds. Assumes nothing.
use Rattle.text.proofs.Writing.{written_then}
use borrow.Author.Rules.{rules}
use Rattle.lists.proofs.set_apart.Goals as goal

pub returns : goal.returns
returns c =
    written_then (search rules) (written_then (search rules) c.refused_text-past_text.ensures.written
    c.put-past_line.ensures)
    c.put.ensures
