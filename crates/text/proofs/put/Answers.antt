-- `text::put` meets its contract: one byte is written. Assumes nothing.
use Rattle.text.proofs.Writing.{written-put}
use Rattle.text.proofs.put.Goals as goal

pub returns : goal.returns
returns c = written-put c.args.byte c.args.at c.args.out.now c.requires
