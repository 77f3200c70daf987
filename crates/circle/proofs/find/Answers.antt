-- `circle::find` meets its contract: what its two scans find, by the shape. Assumes nothing.
use Rattle.circle.proofs.Stores.{find, found-order}
use Rattle.circle.proofs.find.Goals as goal

pub returns-clause-places : goal.returns-clause-places
returns-clause-places c = find c.requires c.skip-y.ensures c.skip-x.ensures

pub returns-clause-order : goal.returns-clause-order
returns-clause-order c = found-order (find c.requires c.skip-y.ensures c.skip-x.ensures)
