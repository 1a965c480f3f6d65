-- An event's parts, one after another.
use Rattle.std.proofs.Common.{◌≡◌, ◌∙◌}
use Rattle.rv_hub.specs.dispatcher.Fields.{dispatcher_state, dispatcher_terms}
use Rattle.rv_hub.specs.dispatcher.View.{begun}
use Rattle.rv_hub.specs.declared.events.EventRefusal.TheVariants as refused
use Rattle.rv_hub.specs.declared.events.HubEvent.TheVariants as what
use Rattle.rv_hub.proofs.Handled.{can_still, going_on, listed_it, on_err, refused_by, rest_same, takes_it}
use Rattle.rv_hub.proofs.Handled.{within_on}
use Rattle.rv_hub.proofs.Resting.{at_rest, gives_it, ready_behind, takes_piece}
use Rattle.rv_hub.proofs.handling.take.Goals as goal

pub act-requires-clause-can : goal.act-requires-clause-can
act-requires-clause-can c =
    can_still (dispatcher_state c.args.dispatcher.now) (dispatcher_state c.begin.new.self) c.args.event.now
    c.begin.ensures.state c.requires.can

pub returns-in_err-opened-clause-rest : goal.returns-in_err-opened-clause-rest
returns-in_err-opened-clause-rest c =
    rest_same c.args.has_journal (dispatcher_state c.args.dispatcher.now)
    (dispatcher_state c.act.new.dispatcher)
    (c.in_err-opened.ensures.same ∙ c.begin.ensures.state) c.requires.rest

pub returns-in_err-opened-clause-refused : goal.returns-in_err-opened-clause-refused
returns-in_err-opened-clause-refused c =
    refused_by (λ why. (c.args.event.now ≡ what.Opened) × (why ≡ refused.NoMemory)) c.from_residual.result _
    c.in_err-opened.ensures.refused c.from_residual.ensures.1

pub returns-in_err-opened-clause-same : goal.returns-in_err-opened-clause-same
returns-in_err-opened-clause-same c =
    on_err c.from_residual.result
    (dispatcher_state c.act.new.dispatcher ≡ begun (dispatcher_state c.args.dispatcher.now))
    (c.in_err-opened.ensures.same ∙ c.begin.ensures.state)

pub run-taken-requires-clause-going : goal.run-taken-requires-clause-going
run-taken-requires-clause-going c =
    going_on c.args.has_journal (dispatcher_state c.args.dispatcher.now) c.begin.new.self c.act.new.dispatcher
    c.args.event.now
    c.in_ok-opened.opened c.requires.rest c.begin.ensures.state c.in_ok-opened.ensures.acts

pub write_all-requires-clause-ready : goal.write_all-requires-clause-ready
write_all-requires-clause-ready c =
    ready_behind c.run-taken.new.dispatcher c.run-taken.ensures.steady c.run-taken.ensures.runs.none_freed

pub write_all-requires-clause-written : goal.write_all-requires-clause-written
write_all-requires-clause-written c =
    within_on c.args.has_journal (dispatcher_state c.args.dispatcher.now) c.begin.new.self
    c.act.new.dispatcher
    c.run-taken.new.dispatcher
    c.args.event.now c.in_ok-opened.opened c.args.now c.run-taken.result c.requires.rest c.begin.ensures.state
    c.in_ok-opened.ensures.acts c.run-taken.ensures.runs

pub returns-clause-rest : goal.returns-clause-rest
returns-clause-rest c =
    at_rest c.run-taken.new.dispatcher c.write_all.new.dispatcher c.args.has_journal
    c.run-taken.ensures.steady
    c.run-taken.ensures.runs.stopped
    (within_on c.args.has_journal (dispatcher_state c.args.dispatcher.now) c.begin.new.self
    c.act.new.dispatcher
    c.run-taken.new.dispatcher
    c.args.event.now c.in_ok-opened.opened c.args.now c.run-taken.result c.requires.rest c.begin.ensures.state
    c.in_ok-opened.ensures.acts c.run-taken.ensures.runs) c.write_all.ensures.ready c.write_all.ensures.writes

pub returns-clause-takes : goal.returns-clause-takes
returns-clause-takes c =
    takes_it c.args.has_journal c.args.dispatcher.now c.begin.new.self c.act.new.dispatcher
    c.run-taken.new.dispatcher
    c.write_all.new.dispatcher c.args.now c.args.event.now c.in_ok-opened.opened c.run-taken.result
    c.unwrap_or.result
    c.begin.ensures.state c.begin.ensures.terms c.requires.can c.in_ok-opened.ensures.acts
    c.act.ensures.terms c.run-taken.ensures.runs c.write_all.ensures.writes c.write_all.ensures.entries
    c.unwrap_or.ensures

pub returns-clause-piece : goal.returns-clause-piece
returns-clause-piece c =
    takes_piece (dispatcher_terms c.run-taken.new.dispatcher) c.args.has_journal
    (dispatcher_state c.run-taken.new.dispatcher)
    (dispatcher_state c.write_all.new.dispatcher) c.args.event.now c.in_ok-opened.ensures.acts.number
    c.run-taken.result
    c.unwrap_or.result c.write_all.ensures.writes c.run-taken.ensures.runs.stopped
    c.run-taken.ensures.runs.takes_no_more
    (gives_it c.args.event.now c.in_ok-opened.ensures.acts.number c.run-taken.result c.unwrap_or.result
    c.in_ok-opened.opened c.in_ok-opened.ensures.acts.opened_is c.unwrap_or.ensures)

pub returns-clause-listed : goal.returns-clause-listed
returns-clause-listed c =
    listed_it c.args.has_journal (dispatcher_terms c.args.dispatcher.now)
    (dispatcher_state c.args.dispatcher.now) c.args.now
    c.args.event.now c.write_all.new.dispatcher.entries.items c.unwrap_or.result
    (dispatcher_state c.write_all.new.dispatcher)
    (takes_it c.args.has_journal c.args.dispatcher.now c.begin.new.self c.act.new.dispatcher
    c.run-taken.new.dispatcher
    c.write_all.new.dispatcher c.args.now c.args.event.now c.in_ok-opened.opened c.run-taken.result
    c.unwrap_or.result
    c.begin.ensures.state c.begin.ensures.terms c.requires.can c.in_ok-opened.ensures.acts
    c.act.ensures.terms c.run-taken.ensures.runs c.write_all.ensures.writes c.write_all.ensures.entries
    c.unwrap_or.ensures)
