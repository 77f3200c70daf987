-- `text::numeral` meets its contract: each turn writes one digit more, from the last on. The measure is what is left of
-- the number, which falls to its tenth. Assumes nothing.
use mathlib.Core.Path.{◌≡◌}
use lib.ListN.{length}
use Rattle.text.proofs.Writing.{Spelling}
use Rattle.text.proofs.numeral.Given as goal

abbrev pub invariant-loop-rest : goal.invariant-loop-rest
invariant-loop-rest l =
    (length l.out ≡ length l.initial.out) × Spelling l.n l.at l.initial.out l.end l.out l.last l.rest

abbrev pub decreases-loop-rest : goal.decreases-loop-rest
decreases-loop-rest l = l.rest
