-- By what was checked of the connection.
use Rattle.std.proofs.Common.{subst, sym}
use Rattle.rv_hub.specs.dispatcher.Fields.{dispatcher_state}
use Rattle.rv_hub.specs.declared.events.HubEvent.{HubEvent}
use Rattle.rv_hub.specs.Events.{EventCan}
use Rattle.rv_hub.proofs.Checked.{ok_can, took_cannot}
use Rattle.rv_hub.proofs.checks.check.Goals as goal

pub returns-in-Came-clause-can : goal.returns-in-Came-clause-can
returns-in-Came-clause-can c =
    ok_can _ _ c.check_input.result
    (subst (λ (w : HubEvent). EventCan (dispatcher_state c.args.dispatcher.now) w) (sym c.in-Came.is))
    c.check_input.ensures.can

pub returns-in-Took-clause-cannot : goal.returns-in-Took-clause-cannot
returns-in-Took-clause-cannot c =
    took_cannot (dispatcher_state c.args.dispatcher.now) c.args.event.now _ _ c.check_offered.result
    c.in-Took.is
    c.check_offered.ensures.cannot
