-- `list_part` meets its contract: the table that it makes has the counts, and its room takes any record's beats.
-- Assumes nothing.
use mathlib.Core.Path.{sym, subst}
use Rattle.lookup.specs.Lent.{Counts}
use Rattle.lookup.proofs.Lent.{table-counts}
use Rattle.lists.proofs.list_part.Goals as goal

pub lent-requires : goal.lent-requires
lent-requires c = subst Counts (sym c.rows-rows.ensures) table-counts
