-- The one that has waited longest is told next.
use Rattle.rv_hub.proofs.OfDispatcher.Late.{late_all, late_begun, late_next}
use Rattle.rv_hub.proofs.dispatcher.Dispatcher.tell_overdue.Goals as goal

pub loop-connection-init : goal.loop-connection-init
loop-connection-init c = (c.requires.sound, late_begun c.args.self.now c.requires.waits)

pub loop-connection-preserved : goal.loop-connection-preserved
loop-connection-preserved c = (
  c.tell.ensures.sound,
  late_next c.args.self.now c.loop-connection.self c.tell.new.self c.in-Some.connection
      c.loop-connection.invariant.1 c.in-Some.ensures.some c.tell.ensures.tells,
)

pub returns-clause-tells : goal.returns-clause-tells
returns-clause-tells c =
    late_all c.args.self.now c.loop-connection.self c.loop-connection.invariant.1 c.in_default.ensures.none

pub returns-clause-waits : goal.returns-clause-waits
returns-clause-waits c = c.loop-connection.invariant.1.waits
