-- `form::write` meets its contract: each turn writes one beat more of the form, from the last on, until what is left is
-- ones and then zeros. Assumes nothing.
use Rattle.form.proofs.Writing.{Behind}
use Rattle.form.proofs.write.Given as goal

abbrev pub invariant-loop-k : goal.invariant-loop-k
invariant-loop-k l = Behind l.t l.s l.number l.out l.at l.p l.k l.all l.low

abbrev pub decreases-loop-k : goal.decreases-loop-k
decreases-loop-k l = l.at
