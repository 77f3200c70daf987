-- `circle_back::plan_second` meets its contract: the rest has no 01 at the first return, and one at the second. Assumes
-- nothing.
use Rattle.circle_back.proofs.Undoing.{undo-turn, undo-dip}
use Rattle.circle_back.proofs.plan_second.Goals as goal

pub returns-then-u-rest : goal.returns-then-u-rest
returns-then-u-rest c =
    undo-turn c.requires.form c.requires.some c.find-v.ensures.places c.if-u-rest.true

pub returns : goal.returns
returns c =
    undo-dip c.find-v.ensures.places c.if-u-rest.false
