-- The put that was taken, and what came of it.
use Rattle.rv_client.specs.Link.{link}
use Rattle.rv_commands.proofs.OfLines.{takes_step}
use Rattle.rv_commands.proofs.lines.LinePuts.put_next.Goals as goal

pub returns-clause-step : goal.returns-clause-step
returns-clause-step g c =
    takes_step g.B.Read.remaining g.R.Read.remaining g.W.Write.contents c.args.new c.args.self.now
    c.take_open.new.self c.settle.new.self (link c.args.from.now c.args.to.now)
    (link c.ask_again-end.new.from c.ask_again-end.new.to) c.in-Ok.put c.ask_again-end.new.self
    c.ask_again-end.result c.settle.result c.in-Ok.ensures c.ask_again-end.ensures.ends
    c.ask_again-end.ensures.call c.ask_again-end.ensures.asked c.settle.ensures.open_put
    c.settle.ensures.input
