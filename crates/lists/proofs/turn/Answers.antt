-- `turn` meets its contract: a pass, and then an exchange. Assumes nothing.
use Rattle.stream.proofs.Stops.{ready}
use Rattle.lists.proofs.turn.Goals as goal

pub exchange-requires : goal.exchange-requires
exchange-requires g c = ready c.requires.1 c.requires.0.any-record c.list_window-pass.ensures
