-- `triangle::inside` meets its contract: the table holds N. Assumes nothing.
use mathlib.Core.Path.{◌∙◌}
use native.Mathlib.Omega.{arith}
use Rattle.triangle.proofs.Rule.{at-N}
use Rattle.triangle.proofs.inside.Goals as goal

pub returns : goal.returns
returns c =
    c.inside.ensures
    ∙ at-N c.args.t c.args.s c.requires.0 (omega (arith, c.requires.0, c.requires.1))
