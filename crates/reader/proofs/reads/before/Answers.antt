-- `reads::before` meets its contract: a number that is not below all stays, 0 becomes the last, and any other is one
-- less. Assumes nothing.
use mathlib.Core.Path.{sym}
use native.Mathlib.Omega.{arith}
use Rattle.reader.proofs.Numberings.{held-last}
use Rattle.reader.proofs.reads.before.Goals as goal

pub returns-then-number-eq0 : goal.returns-then-number-eq0
returns-then-number-eq0 c =
    let args = c.args in
    sym (held-last args.all args.number (omega (arith, c.if-all-number.false, c.if-number-eq0.true))
    c.if-number-eq0.true)
