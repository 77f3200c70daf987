-- `accepted` meets its contract: each list has the line of its own. Assumes nothing.
use Rattle.circle.proofs.Forms.{own-counts}
use Rattle.lists.proofs.accepted.Goals as goal

pub reason_of-requires : goal.reason_of-requires
reason_of-requires c = own-counts c.requires.0
