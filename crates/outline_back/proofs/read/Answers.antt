-- `outline_back::read` meets its contract: the text is an outline's exactly if its lines and it were read to their end.
-- Assumes nothing.
use native.Mathlib.Omega.{arith}
use Rattle.outline_back.proofs.Headings.{reads-beats}
use Rattle.outline_back.proofs.Whole.{found-whole, found-broken}
use Rattle.outline_back.proofs.read.Goals as goal
use Rattle.outline_back.proofs.read.Goals.{then-end-eq0+else-end-text, else-end-eq0}

pub returns-then-end-text : goal.returns-then-end-text
returns-then-end-text c = found-whole c.list.ensures c.requires c.if-end-eq0.true c.if-end-text.true

pub overflow_sub-good : goal.overflow_sub-good
overflow_sub-good c = omega (arith, reads-beats c.list.ensures.reads)

pub returns : goal.returns
returns c =
    found-broken c.list.ensures
    (λ q. elim c.if-end-eq0.branch [
      | then-end-eq0+else-end-text w ↦ w.if-end-text.false q.1
      | else-end-eq0 w ↦ w.if-end-eq0.false q.0
    ])
