-- `outline_back::readable` meets its contract: a refusal by size, or what reading into a room of its own finds.
-- Assumes nothing.
use mathlib.Core.Path.{◌≡◌, sym}
use lib.ListN.{length}
use Rattle.std.proofs.Common.{Ok}
use Rattle.std.proofs.lemmas.Result.{err_from_is_err_and}
use Rattle.refusal.specs.Rows.{judge}
use Rattle.outline_back.specs.Back.{back_rows, unfit}
use Rattle.outline_back.proofs.Whole.{back_some}
use Rattle.outline_back.proofs.readable.Goals as goal

pub returns-in_err-sized : goal.returns-in_err-sized
returns-in_err-sized c =
    let p = err_from_is_err_and c.from_residual.result c.from_residual.ensures.1 in
    rw (p.1, p.2) (c.args.out.now, unfit (sym c.in_err-sized.ensures))

pub returns : goal.returns
returns c =
    let fitting : judge (back_rows (c.args.n) (length (c.args.out.now))) ≡ Ok tt =
    sym c.in_ok-sized.ensures in
    back_some (c.args.out.now) (fitting) c.read.ensures
