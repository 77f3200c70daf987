-- `outlined` meets its contract: a form that is not closed has the line of a 14; the text of another has room. Assumes
-- nothing.
use mathlib.Core.Bool.{Bool, cond}
use mathlib.Core.List.{[], ◌∷◌, ◌++◌}
use mathlib.Core.Path.{sym, subst}
use Prim.Native.Nat.{ℕ, ◌+◌, ◌*◌, ◌≤◌}
use native.Mathlib.Omega.{arith}
use borrow.Author.Tests.{eq-eqb}
use lib.ListN.{length}
use Rattle.refusal.specs.declared.Refusal.TheVariants.{NotClosed}
use Rattle.triangle.specs.Count.{largest}
use Rattle.schedule.specs.Schedule.{Schedule}
use Rattle.outline.specs.Text.{printed}
use Rattle.outline.proofs.Bound.{bound-largest, printed-bound}
use Rattle.text.specs.Written.{Written}
use Rattle.text.proofs.Writing.{written_then}
use Rattle.lists.specs.Listed.{apart}
use Rattle.lists.proofs.outlined.Goals as goal

pub print-past_outline-requires : goal.print-past_outline-requires
print-past_outline-requires c =
    let closed : Schedule c.args.t c.args.t c.args.beats.now =
    subst (λ (k : ℕ). Schedule c.args.t k c.args.beats.now) (sym c.if-t-s.false) c.requires.0 in
    let room : length (printed c.args.beats.now) ≤ largest * (largest + 1) =
    omega (arith, printed-bound (closed), bound-largest c.requires.1) in
    ((c.args.t, closed), omega (arith, room, c.requires.2))

pub put-requires : goal.put-requires
put-requires c =
    let closed : Schedule c.args.t c.args.t c.args.beats.now =
    subst (λ (k : ℕ). Schedule c.args.t k c.args.beats.now) (sym c.if-t-s.false) c.requires.0 in
    let room : length (printed c.args.beats.now) ≤ largest * (largest + 1) =
    omega (arith, printed-bound (closed), bound-largest c.requires.1) in
    omega (arith, c.print-past_outline.ensures.end, c.print-past_outline.auto.text, room, c.requires.2)

pub returns : goal.returns
returns c =
    let args = c.args in
    subst
    (λ (q : Bool).
    Written 0 (cond q (printed args.beats.now ++ 10 ∷ []) (apart NotClosed)) args.out.now
    c.put.new.out c.put.result)
    (sym (eq-eqb args.t args.s c.if-t-s.false))
    (written_then (omega arith) c.print-past_outline.ensures c.put.ensures)
