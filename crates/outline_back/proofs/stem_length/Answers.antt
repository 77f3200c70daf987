-- `outline_back::stem_length` meets its contract: a dot follows a number that is not empty. Assumes nothing.
use mathlib.Core.List.{[], ◌∷◌}
use mathlib.Core.Path.{◌∙◌, ap, sym}
use native.Mathlib.Omega.{arith}
use lib.ListN.{length, length-append}
use Rattle.outline.proofs.Numbers.{stem-some}
use Rattle.outline_back.proofs.Line.{stem-empty}
use Rattle.outline_back.proofs.stem_length.Goals as goal

pub returns-then-long-eq0 : goal.returns-then-long-eq0
returns-then-long-eq0 c = λ p e. sym (ap length (stem-empty p (e ∙ c.if-long-eq0.true)))

pub returns : goal.returns
returns c =
    λ p e.
    let some = ap length (stem-some p (λ none. c.if-long-eq0.false (sym e ∙ none))) in
    omega (arith, e, some, length-append p (46 ∷ []))
