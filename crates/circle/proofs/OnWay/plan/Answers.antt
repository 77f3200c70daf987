-- `plan` of the way on meets its contract, one shape of the schedule at each return. Assumes nothing.
use native.Mathlib.Omega.{arith}
use Rattle.circle.proofs.Stores.{
  plan-stays,
  plan-alone,
  plan-turns,
  plan-swaps,
  plan-dips,
}
use Rattle.circle.proofs.OnWay.plan.Goals as goal

pub returns-then-y-n-clause-way : goal.returns-then-y-n-clause-way
returns-then-y-n-clause-way c =
    plan-stays c.requires c.find-y.ensures.places c.if-x-n.true c.if-y-n.true

pub returns-then-y-eq1-clause-way : goal.returns-then-y-eq1-clause-way
returns-then-y-eq1-clause-way c =
    plan-alone c.requires c.if-y-n.false c.find-y.ensures.places c.if-x-n.true
    c.if-y-eq1.true

pub returns-then-x-n-clause-way : goal.returns-then-x-n-clause-way
returns-then-x-n-clause-way c =
    plan-turns c.requires c.if-y-n.false c.find-y.ensures.places c.if-x-n.true c.if-y-eq1.false

pub returns-then-x-y-clause-way : goal.returns-then-x-y-clause-way
returns-then-x-y-clause-way c =
    plan-dips c.requires c.if-x-n.false c.find-y.ensures.places c.if-x-n-2.true
    c.if-beats-x-eq0.true c.if-x-y.true

pub returns-else-x-y-clause-way : goal.returns-else-x-y-clause-way
returns-else-x-y-clause-way c =
    plan-swaps c.requires c.if-x-n.false c.find-y.ensures.places (λ _ _. c.if-x-y.false)

pub returns-else-beats-x-eq0-clause-way : goal.returns-else-beats-x-eq0-clause-way
returns-else-beats-x-eq0-clause-way c =
    plan-swaps c.requires c.if-x-n.false c.find-y.ensures.places
    (λ _ down. absurd (c.if-beats-x-eq0.false down))

pub returns-else-x-n-2-clause-way : goal.returns-else-x-n-2-clause-way
returns-else-x-n-2-clause-way c =
    plan-swaps c.requires c.if-x-n.false c.find-y.ensures.places
    (λ inside _. absurd (omega arith))
