-- `triangle::forms` meets its contract: the table's entry is the count. Assumes nothing.
use mathlib.Core.Path.{◌∙◌}
use Rattle.triangle.proofs.Rule.{at-counted}
use Rattle.triangle.proofs.forms.Goals as goal

pub returns : goal.returns
returns c = c.entry.ensures ∙ at-counted c.args.t c.args.s
