-- `number::number_by` meets its contract: a schedule has its number, and what is none has the check's
-- refusal. Assumes nothing.
use mathlib.Core.Path.{◌∙◌, ap, sym}
use Rattle.std.proofs.Common.{Ok}
use Rattle.refusal.specs.Answer.{Verdict, answer}
use Rattle.schedule.proofs.Theorems.{accepted-schedule, schedule-accepted}
use Rattle.number.specs.Number.{number_of}
use Rattle.number.proofs.number_by.Goals as goal

pub returns-in-Some : goal.returns-in-Some
returns-in-Some c =
    let args = c.args in
    let right = c.in-Some.ensures.some in
    ap Ok right.2
    ∙ sym (ap (λ (v : Verdict). answer v (number_of args.t args.s args.beats.now))
    (schedule-accepted args.t args.s args.beats.now right.0 right.1))

pub unreachable-requires : goal.unreachable-requires
unreachable-requires c =
    let args = c.args in
    let right = accepted-schedule args.t args.s args.beats.now (sym c.in_ok-check.ensures) in
    c.in_default.ensures.none right.0 right.1
