-- `outline_back::rebuild` meets its contract: what was read is copied where the text is an outline's. Assumes nothing.
use mathlib.Core.List.{List, ◌++◌}
use mathlib.Core.Path.{◌≡◌, ◌∙◌, ap, sym}
use Prim.Native.Nat.{ℕ}
use lib.ListN.{length, drop}
use lib.Seq.{take-length}
use Rattle.std.proofs.lemmas.Result.{err_from_is_err_and}
use Rattle.schedule.proofs.Copied.{copied}
use Rattle.outline_back.proofs.Whole.{back_whole, back-broken}
use Rattle.outline_back.proofs.rebuild.Goals as goal

pub returns-in_err-read : goal.returns-in_err-read
returns-in_err-read c =
    let p = err_from_is_err_and c.from_residual.result c.from_residual.ensures.1 in
    rw (p.1, p.2) (back-broken c.args.out.now c.requires.0 c.read.ensures c.in_err-read.was)

pub returns : goal.returns
returns c =
    let out = c.args.out.now in
    let written = c.read.new.room in
    let long : length written ≡ length out = c.read.auto.room ∙ c.requires.1 in
    back_whole out _ c.requires.0 c.read.ensures c.in_ok-read.was
    (c.copy.ensures.text
    ∙ ap (λ (w : List ℕ). w ++ drop (length written) out) (sym (take-length written))
    ∙ copied written out long)
