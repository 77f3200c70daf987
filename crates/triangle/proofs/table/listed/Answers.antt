-- `triangle::table::listed` meets its contract: outside the table there is nothing, and inside the array is
-- the list. Assumes nothing.
use mathlib.Core.Path.{sym}
use Rattle.triangle.proofs.Rule.{at-row-outside, at-column-outside}
use Rattle.triangle.proofs.table.listed.Goals as goal

pub returns-then-t-gt-LARGEST : goal.returns-then-t-gt-LARGEST
returns-then-t-gt-LARGEST c = sym (at-row-outside c.args.t c.args.s c.if-t-gt-LARGEST.true)

pub returns-then-s-gt-LARGEST : goal.returns-then-s-gt-LARGEST
returns-then-s-gt-LARGEST c = sym (at-column-outside c.args.t c.args.s c.if-s-gt-LARGEST.true)
