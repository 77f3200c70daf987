-- `lists::list_all` meets its contract: the table that it makes has the counts, and its buffers are large
-- enough. Assumes nothing.
use mathlib.Core.Path.{sym, subst}
use borrow.Author.Rules.{rules}
use Rattle.lookup.specs.Lent.{Counts}
use Rattle.lookup.proofs.Lent.{table-counts}
use Rattle.lists.proofs.list_all.Goals as goal

pub lent-requires : goal.lent-requires
lent-requires g c = subst Counts (sym c.rows-rows.ensures) table-counts

pub run-requires : goal.run-requires
run-requires g c = record { any-record = search rules; any-beats = search rules }
