-- `reason_of` meets its contract, one shape of the schedule at each return. Assumes nothing.
use native.Mathlib.Omega.{arith}
use Rattle.reason.proofs.Reasons.{tell_none, tell-alone, tell-last}
use Rattle.reason.proofs.Reasons.{tell-closes, tell-lifts, tell-levels, tell-dips}
use Rattle.reason.proofs.reason_of.Goals as goal

pub returns-then-y-n : goal.returns-then-y-n
returns-then-y-n c =
    tell_none c.requires c.find-y.ensures.places c.if-x-n.true c.if-y-n.true

pub returns-then-y-eq1 : goal.returns-then-y-eq1
returns-then-y-eq1 c =
    tell-alone c.requires c.find-y.ensures.places c.if-x-n.true c.if-y-eq1.true

pub returns-then-x-n : goal.returns-then-x-n
returns-then-x-n c =
    tell-last c.requires c.find-y.ensures.places c.if-x-n.true c.if-y-n.false c.if-y-eq1.false

pub returns-then-beats-x-eq1 : goal.returns-then-beats-x-eq1
returns-then-beats-x-eq1 c =
    tell-lifts c.requires c.if-x-n.false c.if-x-n-2.true c.find-y.ensures.places c.if-beats-x-eq1.true

pub returns-then-x-y : goal.returns-then-x-y
returns-then-x-y c =
    tell-dips c.requires c.if-x-n.false c.if-x-n-2.true c.if-beats-x-eq1.false
    c.find-y.ensures.places c.if-x-y.true

pub returns-else-x-y : goal.returns-else-x-y
returns-else-x-y c =
    tell-levels c.requires c.if-x-n.false c.if-x-n-2.true c.if-beats-x-eq1.false
    c.find-y.ensures.places (λ h. omega (arith, c.if-x-y.false))

pub returns-else-x-n-2 : goal.returns-else-x-n-2
returns-else-x-n-2 c =
    tell-closes c.requires c.if-x-n.false c.find-y.ensures.places (λ h. omega (arith, c.if-x-n-2.false))
