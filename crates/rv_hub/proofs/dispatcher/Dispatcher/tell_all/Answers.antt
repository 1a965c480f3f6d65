-- The one of the lowest number is told next.
use Rattle.rv_hub.proofs.OfDispatcher.Tellings.{tells_all, tells_next}
use Rattle.rv_hub.proofs.dispatcher.Dispatcher.tell_all.Goals as goal

pub loop-connection-preserved : goal.loop-connection-preserved
loop-connection-preserved c = (
  c.tell.ensures.sound,
  tells_next c.args.self.now c.loop-connection.self c.tell.new.self c.args.client c.in-Some.connection
      c.loop-connection.invariant.1 c.in-Some.ensures.first c.tell.ensures.tells,
)

pub returns-clause-tells : goal.returns-clause-tells
returns-clause-tells c =
    tells_all c.args.self.now c.loop-connection.self c.args.client c.loop-connection.invariant.1
    c.in_default.ensures.none
