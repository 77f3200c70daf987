-- `run` meets its contract: a turn keeps what the loop needs. Assumes nothing.
use mathlib.Core.Path.{◌∙◌}
use Rattle.lists.proofs.run.Goals as goal

pub loop-turns-preserved : goal.loop-turns-preserved
loop-turns-preserved g c =
    let stands = c.loop-turns.invariant in
    record {
      input-kept = c.turn-state.auto.input ∙ stands.input-kept;
      room-kept = c.turn-state.auto.room ∙ stands.room-kept;
      text-kept = c.turn-state.auto.text ∙ stands.text-kept;
      inside = c.turn-state.ensures.inside;
    }
