-- `moving::exchange` meets its contract. Assumes nothing.
use Rattle.stream.proofs.Onwards.{on-unwritten, on-over, on-again, on-fed}
use Rattle.stream.proofs.moving.exchange.Goals as goal

pub returns-then-not-send : goal.returns-then-not-send
returns-then-not-send g c =
    on-unwritten c.args.input.now c.args.text.now c.args.stream c.args.pass
    c.requires

pub returns-in-Short : goal.returns-in-Short
returns-in-Short g c =
    on-fed c.args.input.now c.args.text.now c.args.stream c.args.pass c.requires
    c.in-Short.is c.refill.ensures

pub returns-in-Record : goal.returns-in-Record
returns-in-Record g c =
    on-again c.args.input.now c.args.text.now c.args.stream c.args.pass c.requires
    c.in-Record.is

pub returns-in-Over : goal.returns-in-Over
returns-in-Over g c =
    on-over c.args.input.now c.args.text.now c.args.stream c.args.pass c.requires
    c.in-Over.is
