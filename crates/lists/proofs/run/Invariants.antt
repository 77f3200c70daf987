-- `run` meets its contract: the buffers keep their sizes and the program stays inside them.
-- The measure is the turns that are left. Assumes nothing.
use Rattle.std.proofs.Common.{List, ℕ, length, ◌≡◌}
use Rattle.stream.specs.declared.Stream.{Stream}
use Rattle.stream.specs.Exchange.{Inside}
use Rattle.lists.proofs.run.Given as goal

-- the buffers have the lengths that they had, and the program stands inside them
pub record Standing (input₀ room₀ text₀ input room text : List ℕ) (state : Stream) : Type 0 where
  pub input-kept : length input ≡ length input₀
  pub room-kept : length room ≡ length room₀
  pub text-kept : length text ≡ length text₀
  pub inside : Inside input state

abbrev pub invariant-loop-turns : goal.invariant-loop-turns
invariant-loop-turns g l = Standing l.initial.input l.initial.room l.initial.text l.input l.room l.text l.state

abbrev pub decreases-loop-turns : goal.decreases-loop-turns
decreases-loop-turns g l = l.turns
