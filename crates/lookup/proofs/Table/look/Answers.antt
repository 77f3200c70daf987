-- `Table::look` meets its contract: the lent row has the count, and else the matches have it. Assumes nothing.
use mathlib.Core.Path.{◌∙◌}
use Rattle.triangle.proofs.Count.{counted-N}
use Rattle.lookup.proofs.Table.look.Goals as goal

pub returns-then-row-self : goal.returns-then-row-self
returns-then-row-self c =
    c.args.self.counted c.args.t c.args.s c.if-row-self.true
    ∙ counted-N c.args.t c.args.s c.requires.0
