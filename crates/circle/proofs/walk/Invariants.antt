-- `circle::walk` meets its contract. The loop's invariant: after `counter` steps the form reached, and the
-- beats changed so far, which are at most four a step. Assumes nothing.
use Prim.Native.Nat.{◌≤◌}
use Rattle.circle.proofs.Forms.{Walked}
use Rattle.circle.proofs.walk.Given as goal

abbrev pub invariant-loop : goal.invariant-loop
invariant-loop g l =
    let way = g.W.Way in
    (l.counter ≤ l.k) × Walked way.walks way.works l.initial.beats l.beats l.counter l.sum
