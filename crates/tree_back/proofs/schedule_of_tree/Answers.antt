-- `tree_back::schedule_of_tree` meets its contract: a refusal by size leaves what was lent; else the way back is made
-- in the room of its own. Assumes nothing.
use mathlib.Core.Path.{sym}
use Rattle.std.proofs.lemmas.Result.{err_from_is_err_and}
use Rattle.tree_back.specs.Back.{unfit}
use Rattle.tree_back.proofs.schedule_of_tree.Goals as goal

pub returns-in_err-sized : goal.returns-in_err-sized
returns-in_err-sized c =
    let p = err_from_is_err_and c.from_residual.result c.from_residual.ensures.1 in
    rw (p.1, p.2) (unfit (sym c.in_err-sized.ensures))
