-- `tree_back::rebuild` meets its contract: what was read is copied where the tables have it. Assumes nothing.
use mathlib.Core.List.{List, ◌++◌}
use mathlib.Core.Path.{◌≡◌, ◌∙◌, ap, sym, subst}
use Prim.Native.Nat.{ℕ}
use lib.ListN.{length, drop}
use lib.Seq.{take-length}
use Rattle.tree.specs.Table.{Has}
use Rattle.tree_back.specs.Back.{found, none}
use Rattle.schedule.proofs.Copied.{copied}
use Rattle.tree_back.proofs.Tracing.{traced-whole, traced-broken}
use Rattle.tree_back.proofs.rebuild.Goals as goal

pub returns-then-trace : goal.returns-then-trace
returns-then-trace c =
    let written = c.trace.new.beats in
    let long : length written ≡ length (c.args.out.now) = c.trace.auto.beats ∙ c.requires.1 in
    let same =
    c.copy.ensures.text ∙ ap (λ (w : List ℕ). w ++ drop (length written) c.args.out.now) (sym (take-length written))
    ∙ copied written c.args.out.now long in
    found c.requires.0
    (subst
    (λ (w : List ℕ).
    Has ((length c.args.left.now)) w c.args.left.now c.args.right.now c.args.parent.now)
    (sym same)
    (traced-whole c.trace.ensures c.if-trace.true))

pub returns-else-trace : goal.returns-else-trace
returns-else-trace c = none c.requires.0 (traced-broken c.trace.ensures c.if-trace.false)
