-- Each event that can be has its own effect.
use Rattle.std.proofs.Common.{ap}
use Rattle.rv_hub.specs.dispatcher.Fields.{dispatcher_state}
use Rattle.rv_hub.specs.declared.events.HubEvent.{HubEvent}
use Rattle.rv_hub.specs.Steps.{opened_number}
use Rattle.rv_hub.specs.Turns.{own_effects}
use Rattle.rv_hub.proofs.Acting.{acts_close, acts_end, acts_none, acts_open, acts_take, acts_write, can_close}
use Rattle.rv_hub.proofs.Acting.{can_end}
use Rattle.rv_hub.proofs.Acting.{can_take, can_write}
use Rattle.rv_hub.proofs.handling.act.Goals as goal

pub end_input-requires-clause-open_wire : goal.end_input-requires-clause-open_wire
end_input-requires-clause-open_wire c =
    can_end (dispatcher_state c.args.dispatcher.now) c.args.event.now _ c.in-Ended.is c.requires.can

pub close-requires-clause-open_wire : goal.close-requires-clause-open_wire
close-requires-clause-open_wire c =
    can_close (dispatcher_state c.args.dispatcher.now) c.args.event.now _ c.in-Gone.is c.requires.can

pub took-requires-clause-offered : goal.took-requires-clause-offered
took-requires-clause-offered c =
    can_take (dispatcher_state c.args.dispatcher.now) c.args.event.now _ _ c.in-Took.is c.requires.can

pub write-requires-clause-rises : goal.write-requires-clause-rises
write-requires-clause-rises c =
    (can_write (dispatcher_state c.args.dispatcher.now) c.args.event.now _ c.in-Written.is c.requires.can).0

pub write-requires-clause-within : goal.write-requires-clause-within
write-requires-clause-within c =
    (can_write (dispatcher_state c.args.dispatcher.now) c.args.event.now _ c.in-Written.is c.requires.can).1

pub returns-in-Ok-clause-acts : goal.returns-in-Ok-clause-acts
returns-in-Ok-clause-acts c =
    acts_open c.args.dispatcher.now c.open.new.self c.args.event.now c.in-Ok.connection c.in-Opened.is
    c.in-Ok.ensures.opens

pub returns-in-Came-clause-acts : goal.returns-in-Came-clause-acts
returns-in-Came-clause-acts c =
    acts_none c.args.dispatcher.now c.args.event.now (ap (λ (w : HubEvent). own_effects w 0) c.in-Came.is)
    (ap (λ (w : HubEvent). opened_number w 0) c.in-Came.is)

pub returns-in-Ended-clause-acts : goal.returns-in-Ended-clause-acts
returns-in-Ended-clause-acts c =
    acts_end c.args.dispatcher.now c.end_input.new.self c.args.event.now _ c.in-Ended.is
    c.end_input.ensures.ends

pub returns-in-Gone-clause-acts : goal.returns-in-Gone-clause-acts
returns-in-Gone-clause-acts c =
    acts_close c.args.dispatcher.now c.close.new.self c.args.event.now _ c.in-Gone.is c.close.ensures.closes

pub returns-in-Took-clause-acts : goal.returns-in-Took-clause-acts
returns-in-Took-clause-acts c =
    acts_take c.args.dispatcher.now c.took.new.self c.args.event.now _ _ c.in-Took.is c.took.ensures.leaves

pub returns-in-Written-clause-acts : goal.returns-in-Written-clause-acts
returns-in-Written-clause-acts c =
    acts_write c.args.dispatcher.now c.write.new.self c.args.event.now _ c.in-Written.is
    c.write.ensures.writes

pub returns-in-Passed-clause-acts : goal.returns-in-Passed-clause-acts
returns-in-Passed-clause-acts c =
    acts_none c.args.dispatcher.now c.args.event.now (ap (λ (w : HubEvent). own_effects w 0) c.in-Passed.is)
    (ap (λ (w : HubEvent). opened_number w 0) c.in-Passed.is)
