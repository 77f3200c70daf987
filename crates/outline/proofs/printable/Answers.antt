-- `outline::printable` meets its contract: the refusals of the schedule, and then 12. Assumes nothing.
use mathlib.Core.Path.{◌≡◌, sym}
use Rattle.std.proofs.Common.{Ok}
use Rattle.refusal.specs.Rows.{judge}
use Rattle.outline.specs.Answers.{closed_rows}
use Rattle.outline.proofs.Verdicts.{closed-schedule}
use Rattle.outline.proofs.printable.Goals as goal

pub fits-requires : goal.fits-requires
fits-requires c =
    let closing : judge (closed_rows c.args.t c.args.s c.args.beats.now) ≡ Ok tt =
    sym c.in_ok-closed.ensures in
    let args = c.args in
    let q = closed-schedule args.t args.s args.beats.now (closing) in
    (args.t, q.1, q.2)
