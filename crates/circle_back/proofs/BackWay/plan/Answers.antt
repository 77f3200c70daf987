-- `plan` of the way back meets its contract, one shape of the schedule at each return. Assumes nothing.
use mathlib.Core.List.{List, ◌∷◌}
use mathlib.Core.Path.{◌∙◌, ap, sym, subst}
use borrow.Author.Rules.{part_to_end}
use Prim.Native.Nat.{ℕ}
use Rattle.circle.specs.Plan.{Form}
use Rattle.circle_back.specs.Undo.{Undoes}
use Rattle.circle_back.proofs.Undoing.{came, rest-form, undo-plain, undo-level, undo-low, undo-alone}
use Rattle.circle_back.proofs.BackWay.plan.Goals as goal

pub returns-then-y-n-clause-way : goal.returns-then-y-n-clause-way
returns-then-y-n-clause-way c = undo-plain c.requires (came c.requires c.find-y.ensures.places) c.if-y-n.true

pub returns-then-x-y-clause-way : goal.returns-then-x-y-clause-way
returns-then-x-y-clause-way c =
    undo-level c.requires c.if-y-n.false (came c.requires c.find-y.ensures.places) c.if-y-gt1.true c.if-x-y.true

pub returns-then-y-gt1-clause-way : goal.returns-then-y-gt1-clause-way
returns-then-y-gt1-clause-way c =
    undo-low c.requires c.if-y-n.false (came c.requires c.find-y.ensures.places) c.if-y-gt1.true c.if-x-y.false

pub returns-then-x-n-clause-way : goal.returns-then-x-n-clause-way
returns-then-x-n-clause-way c =
    undo-alone c.requires c.if-y-n.false c.if-y-gt1.false (came c.requires c.find-y.ensures.places) c.if-x-n.true

pub slice_bounds-plan_second-count : goal.slice_bounds-plan_second-count
slice_bounds-plan_second-count c =
    let seen = came c.requires c.find-y.ensures.places in
    (rest-form c.requires c.if-y-n.false c.if-y-gt1.false c.if-x-n.false seen).long

pub slice_bounds-plan_second-start : goal.slice_bounds-plan_second-start
slice_bounds-plan_second-start c =
    let seen = came c.requires c.find-y.ensures.places in
    (rest-form c.requires c.if-y-n.false c.if-y-gt1.false c.if-x-n.false seen).long

pub plan_second-requires-clause-form : goal.plan_second-requires-clause-form
plan_second-requires-clause-form c =
    let seen = came c.requires c.find-y.ensures.places in
    let rest = rest-form c.requires c.if-y-n.false c.if-y-gt1.false c.if-x-n.false seen in
    subst Form (sym (part_to_end c.args.beats.now 2)) rest.form

pub plan_second-requires-clause-some : goal.plan_second-requires-clause-some
plan_second-requires-clause-some c =
    let seen = came c.requires c.find-y.ensures.places in
    let rest = rest-form c.requires c.if-y-n.false c.if-y-gt1.false c.if-x-n.false seen in
    rw (part_to_end c.args.beats.now 2) rest.some

pub returns-clause-way : goal.returns-clause-way
returns-clause-way c =
    let seen = came c.requires c.find-y.ensures.places in
    let rest = rest-form c.requires c.if-y-n.false c.if-y-gt1.false c.if-x-n.false seen in
    let is = ap (λ (l : List ℕ). 1 ∷ 0 ∷ l) (part_to_end c.args.beats.now 2) ∙ rest.split in
    subst (λ (l : List ℕ). Undoes l c.plan_second.result) is c.plan_second.ensures
