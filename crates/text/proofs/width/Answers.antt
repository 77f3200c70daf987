-- `text::width` meets its contract: the power is ten to the digits counted, and n has no fewer. Assumes nothing.
use native.Mathlib.Omega.{arith}
use Rattle.text.proofs.Digits.{counting-one, counting_more, counting-all, counting-most, power-fits}
use borrow.Author.Rules.{rules}
use Rattle.text.proofs.width.Goals as goal

pub loop-power-init : goal.loop-power-init
loop-power-init c = counting-one c.args.n

pub returns-then-digits-eq19 : goal.returns-then-digits-eq19
returns-then-digits-eq19 c =
    let here = c.loop-power in
    counting-most here.invariant (omega arith) c.if-digits-eq19.true (search rules)

pub overflow_mul-power : goal.overflow_mul-power
overflow_mul-power c = omega (arith, power-fits c.loop-power.invariant c.if-digits-eq19.false)

pub loop-power-preserved : goal.loop-power-preserved
loop-power-preserved c = counting_more c.loop-power.invariant (omega arith) c.if-digits-eq19.false

pub returns : goal.returns
returns c = counting-all c.loop-power.invariant (omega arith)
