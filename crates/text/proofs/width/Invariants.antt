-- `text::width` meets its contract: the power is ten to the digits counted, and n has no fewer. Assumes nothing.
use Prim.Native.Nat.{◌-◌}
use Rattle.text.proofs.Digits.{Counting}
use Rattle.text.proofs.width.Given as goal

abbrev pub invariant-loop-power : goal.invariant-loop-power
invariant-loop-power l = Counting l.n l.digits l.power

abbrev pub decreases-loop-power : goal.decreases-loop-power
decreases-loop-power l = 19 - l.digits
