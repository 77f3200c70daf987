-- `number::rank` meets its contract: the leading ones and zeros close their own list, and each turn of the loop counts
-- one beat more, which was tested. Where a test fails, the beats are no schedule of these counts. Assumes nothing.
use Prim.Native.Nat.{◌+◌}
use Rattle.number.proofs.Counting.{Counted}
use Rattle.number.proofs.rank.Given as goal

abbrev pub invariant-loop-next : goal.invariant-loop-next
invariant-loop-next l = Counted l.t l.beats (l.rise + l.next-index) l.ups l.downs l.number
