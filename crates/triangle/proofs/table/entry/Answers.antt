-- `triangle::table::entry` meets its contract: outside the table and past s = t there is nothing. Assumes nothing.
use mathlib.Core.Path.{sym}
use Rattle.triangle.proofs.Rule.{at-row-outside}
use Rattle.triangle.proofs.Parts.{at-over}
use Rattle.triangle.proofs.table.entry.Goals as goal

pub returns-then-t-gt-LARGEST : goal.returns-then-t-gt-LARGEST
returns-then-t-gt-LARGEST c = sym (at-row-outside c.args.t c.args.s c.if-t-gt-LARGEST.true)

pub returns-then-t-s : goal.returns-then-t-s
returns-then-t-s c = sym (at-over c.args.t c.args.s c.if-t-s.true)
