-- `counts::count` meets its contract: a refusal is the one that `allowed` gave, and the table has the count of an
-- accepted pair. Assumes nothing.
use mathlib.Core.Path.{◌∙◌, ap, sym}
use Rattle.std.proofs.Common.{Ok}
use Rattle.refusal.specs.Answer.{Verdict, answer}
use Rattle.triangle.specs.Count.{N}
use Rattle.triangle.proofs.Count.{counted-N}
use Rattle.counts.proofs.Sizes.{counts-allowed}
use Rattle.counts.proofs.count.Goals as goal

pub returns : goal.returns
returns c =
    let args = c.args in
    let accepted = sym c.in_ok-allowed.ensures in
    ap Ok (c.forms.ensures ∙ counted-N args.t args.s (counts-allowed args.t args.s accepted).0)
    ∙ ap (λ (v : Verdict). answer v (N args.t args.s)) (sym accepted)
