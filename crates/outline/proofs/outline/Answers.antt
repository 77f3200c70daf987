-- `outline::outline` meets its contract: what is not refused has room, and is printed. Assumes nothing.
use mathlib.Core.Path.{◌≡◌, sym}
use lib.ListN.{length}
use Rattle.std.proofs.Common.{Ok}
use Rattle.refusal.specs.Rows.{judge}
use Rattle.outline.specs.Answers.{outline_rows}
use Rattle.outline.proofs.Verdicts.{closed-schedule, room-closed}
use Rattle.outline.proofs.outline.Goals as goal

pub print-requires : goal.print-requires
print-requires c =
    let accepting : judge (outline_rows c.args.t c.args.s c.args.beats.now
    (length c.args.text.now)) ≡ Ok tt = sym c.in_ok-printable.ensures in
    let args = c.args in
    let a = room-closed args.t args.s args.beats.now (length args.text.now) (accepting) in
    ((args.t, (closed-schedule args.t args.s args.beats.now a.0).2), a.1)
