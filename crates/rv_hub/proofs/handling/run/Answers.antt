-- Whoever was told as time went on goes on after the event's connection.
use Rattle.std.proofs.Common.{◌++◌, ℕ, Option, option_to_list, subst, sym}
use Rattle.rv_hub.specs.dispatcher.Fields.{dispatcher_state}
use Rattle.rv_hub.specs.Steps.{IsGoing, IsOffering, TurnsOn}
use Rattle.rv_hub.specs.Turns.{goes_on_first, offer_in}
use Rattle.rv_hub.proofs.Whom.{passed_going, passed_offering, ran_on}
use Rattle.rv_hub.proofs.handling.run.Goals as goal

pub turn_all-requires-clause-going : goal.turn_all-requires-clause-going
turn_all-requires-clause-going c =
    subst (λ (o : Option ℕ). IsGoing (dispatcher_state c.pass.new.self)
    (option_to_list o ++ c.pass.new.self.freed.items))
    (sym c.first_of.ensures)
    (passed_going c.args.dispatcher.now c.pass.new.self c.args.now
    (option_to_list (goes_on_first c.args.event.now))
    c.requires.ready c.pass.ensures.passes c.requires.going)

pub turn_all-requires-clause-offering : goal.turn_all-requires-clause-offering
turn_all-requires-clause-offering c =
    subst (λ o. IsOffering (dispatcher_state c.pass.new.self)
    (option_to_list c.first_of.result ++ c.pass.new.self.freed.items) o) (sym c.piece_of-source.ensures)
    (subst (λ (o : Option ℕ). IsOffering (dispatcher_state c.pass.new.self)
    (option_to_list o ++ c.pass.new.self.freed.items) (offer_in c.args.event.now)) (sym c.first_of.ensures)
    (passed_offering (dispatcher_state c.pass.new.self) c.args.event.now c.pass.new.self.freed.items))

pub returns-clause-runs : goal.returns-clause-runs
returns-clause-runs c =
    ran_on c.args.dispatcher.now c.pass.new.self c.turn_all.new.dispatcher c.args.now c.args.event.now
    c.first_of.result
    c.turn_all.result c.requires.ready c.requires.begun c.pass.ensures.passes c.first_of.ensures
    (subst (λ o. TurnsOn c.pass.new.self (option_to_list c.first_of.result) o c.turn_all.result
    c.turn_all.new.dispatcher) c.piece_of-source.ensures c.turn_all.ensures.turns)
