-- `outline::print` meets its contract: the topmost list is the outline of the schedule. Assumes nothing.
use mathlib.Core.List.{List, [], append-nil}
use mathlib.Core.Path.{sym, ◌∙◌}
use Prim.Native.Nat.{ℕ}
use native.Mathlib.Omega.{arith}
use Rattle.schedule.specs.Schedule.{Schedule}
use Rattle.outline.specs.Outline.{outline_of, schedule}
use Rattle.outline.specs.Writing.{Stands}
use Rattle.outline.proofs.Schedules.{outline-schedule}
use Rattle.outline.proofs.print.Goals as goal

-- the outline stands in the beats from the first on
stands : {n : ℕ} {b : List ℕ} → Schedule n n b → Stands b 0 (outline_of b)
stands {n} {b} q =
    record { rest = []; here = sym (append-nil (schedule (outline_of b)) ∙ outline-schedule q); ends = tt }

pub list-requires : goal.list-requires
list-requires c =
    record {
      list = outline_of c.args.beats.now;
      stands = stands c.requires.0.1;
      before = omega arith;
      room = omega (arith, c.requires.1);
    }

pub returns : goal.returns
returns c = c.list.ensures.lined (outline_of c.args.beats.now) (stands c.requires.0.1)
