-- `tree::tree` meets its contract: a refusal is that of the sizes or of the check, and leaves what was lent; else the
-- tables are filled. Assumes nothing.
use mathlib.Core.Path.{◌≡◌, ◌∙◌, sym, subst}
use Prim.Native.Nat.{ℕ}
use lib.ListN.{length}
use Rattle.std.proofs.Common.{Ok}
use Rattle.std.proofs.lemmas.Result.{err_from_is_err_and}
use Rattle.refusal.specs.Rows.{judge}
use Rattle.schedule.specs.Check.{checked}
use Rattle.tree.specs.Table.{Has, lent_rows, filled, kept}
use Rattle.tree.proofs.Sizes.{sizes-right, tree-unfit, tree-checked, taken-closed}
use Rattle.tree.proofs.tree.Goals as goal

pub fill-requires : goal.fill-requires
fill-requires c =
    let fitting : judge (lent_rows (c.args.n) (c.args.beats.now) (c.args.left.now) (c.args.right.now)
    (c.args.parent.now)) ≡ Ok tt = sym c.in_ok-sized.ensures in
    let sound : checked (c.args.n) (c.args.n) (c.args.beats.now) ≡ Ok tt =
    sym c.in_ok-check.ensures in
    taken-closed (c.args.n) (c.args.beats.now) (c.args.left.now) (c.args.right.now) (c.args.parent.now) (fitting)
    (sound)

pub returns-in_err-sized : goal.returns-in_err-sized
returns-in_err-sized c =
    let args = c.args in
    let p = err_from_is_err_and c.from_residual.result c.from_residual.ensures.1 in
    rw (p.1, p.2)
    (kept (tree-unfit args.n args.beats.now args.left.now args.right.now args.parent.now (sym c.in_err-sized.ensures)))

pub returns-in_err-check : goal.returns-in_err-check
returns-in_err-check c =
    let args = c.args in
    let fitting = sym c.in_ok-sized.ensures in
    let p = err_from_is_err_and c.from_residual-in_err-check.result c.from_residual-in_err-check.ensures.1 in
    rw (p.1, p.2)
    (kept
    (tree-checked args.n args.beats.now args.left.now args.right.now args.parent.now fitting
    ∙ sym c.in_err-check.ensures))

pub returns : goal.returns
returns c =
    let fitting : judge (lent_rows (c.args.n) (c.args.beats.now) (c.args.left.now) (c.args.right.now)
    (c.args.parent.now)) ≡ Ok tt = sym c.in_ok-sized.ensures in
    let sound : checked (c.args.n) (c.args.n) (c.args.beats.now) ≡ Ok tt = sym c.in_ok-check.ensures in
    let long =
    sizes-right (c.args.n) (length (c.args.beats.now)) (length (c.args.left.now)) (length (c.args.right.now))
    (length (c.args.parent.now))
    (fitting) in
    filled (tree-checked (c.args.n) (c.args.beats.now) (c.args.left.now) (c.args.right.now) (c.args.parent.now)
    (fitting) ∙ sound)
    (subst
    (λ (j : ℕ).
    Has j (c.args.beats.now) c.fill.new.left c.fill.new.right c.fill.new.parent)
    long.2 c.fill.ensures)
