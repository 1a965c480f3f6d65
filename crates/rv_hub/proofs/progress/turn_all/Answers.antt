-- One goes on before those that were freed, or none does.
use Rattle.std.proofs.Common.{◌+◌, ◌++◌, ◌≤◌, [], ℕ, Option, arith, drop, length, option_to_list}
use Rattle.std.proofs.Common.{subst, sym}
use Rattle.std.proofs.lemmas.List.{length-drop, take_rest}
use Rattle.rv_hub.specs.dispatcher.Fields.{dispatcher_state}
use Rattle.rv_hub.specs.Steps.{IsGoing, IsOffering, TurnsOn, offer_from}
use Rattle.rv_hub.specs.Turns.{offered_to}
use Rattle.rv_hub.proofs.Rounds.{first_going, first_offering, first_on, first_within}
use Rattle.rv_hub.proofs.progress.turn_all.Goals as goal

pub turn_freed-requires-clause-going : goal.turn_freed-requires-clause-going
turn_freed-requires-clause-going c =
    subst (λ (o : Option ℕ). IsGoing (dispatcher_state c.args.dispatcher.now)
    (option_to_list o ++ c.args.dispatcher.now.freed.items))
    c.in-None.is c.requires.going

pub turn_freed-requires-clause-offering : goal.turn_freed-requires-clause-offering
turn_freed-requires-clause-offering c =
    subst (λ (o : Option ℕ). IsOffering (dispatcher_state c.args.dispatcher.now)
    (option_to_list o ++ c.args.dispatcher.now.freed.items) (offer_from c.args.source c.args.piece.now))
    c.in-None.is
    c.requires.offering

pub slice_bounds-turn_freed-count : goal.slice_bounds-turn_freed-count
slice_bounds-turn_freed-count c =
    let within = first_within c.args.dispatcher.now c.turn-taken.new.dispatcher (offer_from c.args.source
    c.args.piece.now)
    c.in-Some.connection c.turn-taken.result c.turn-taken.ensures.turn in
    omega arith

pub slice_bounds-turn_freed-end : goal.slice_bounds-turn_freed-end
slice_bounds-turn_freed-end c =
    let within = first_within c.args.dispatcher.now c.turn-taken.new.dispatcher (offer_from c.args.source
    c.args.piece.now)
    c.in-Some.connection c.turn-taken.result c.turn-taken.ensures.turn in
    omega arith

pub turn_freed-requires-in-Some-clause-going : goal.turn_freed-requires-in-Some-clause-going
turn_freed-requires-in-Some-clause-going c =
    first_going c.args.dispatcher.now c.turn-taken.new.dispatcher c.in-Some.connection
    (offered_to (offer_from c.args.source c.args.piece.now) c.in-Some.connection) c.turn-taken.result
    c.turn-taken.ensures.turn c.turn-taken.ensures.stopped
    (subst (λ (o : Option ℕ). IsGoing (dispatcher_state c.args.dispatcher.now)
    (option_to_list o ++ c.args.dispatcher.now.freed.items)) c.in-Some.is c.requires.going)

pub turn_freed-requires-in-Some-clause-offering : goal.turn_freed-requires-in-Some-clause-offering
turn_freed-requires-in-Some-clause-offering c =
    subst (λ l. IsOffering (dispatcher_state c.turn-taken.new.dispatcher)
    c.turn-taken.new.dispatcher.freed.items
    (offer_from c.args.source l)) (sym (take_rest c.args.piece.now c.turn-taken.result))
    (first_offering c.args.dispatcher.now c.turn-taken.new.dispatcher c.in-Some.connection
    (offer_from c.args.source c.args.piece.now) c.turn-taken.result c.turn-taken.ensures.turn
    c.turn-taken.ensures.stops
    (subst (λ (o : Option ℕ). IsOffering (dispatcher_state c.args.dispatcher.now)
    (option_to_list o ++ c.args.dispatcher.now.freed.items) (offer_from c.args.source c.args.piece.now))
    c.in-Some.is
    c.requires.offering))

pub overflow_add-result : goal.overflow_add-result
overflow_add-result c =
    let within = first_within c.args.dispatcher.now c.turn-taken.new.dispatcher (offer_from c.args.source
    c.args.piece.now)
    c.in-Some.connection c.turn-taken.result c.turn-taken.ensures.turn in
    let on = subst (λ l. TurnsOn c.turn-taken.new.dispatcher [] (offer_from c.args.source l)
    c.turn_freed-in-Some.result
    c.turn_freed-in-Some.new.dispatcher) (take_rest c.args.piece.now c.turn-taken.result)
    c.turn_freed-in-Some.ensures.turns in
    let rest : c.turn_freed-in-Some.result ≤ length (drop c.turn-taken.result c.args.piece.now) = on.within in
    let long = length-drop c.turn-taken.result c.args.piece.now in
    omega arith

pub returns-in-None-clause-turns : goal.returns-in-None-clause-turns
returns-in-None-clause-turns c =
    subst (λ (o : Option ℕ). TurnsOn c.args.dispatcher.now (option_to_list o) (offer_from c.args.source
    c.args.piece.now)
    c.turn_freed.result c.turn_freed.new.dispatcher) (sym c.in-None.is) c.turn_freed.ensures.turns

pub returns-in-Some-clause-turns : goal.returns-in-Some-clause-turns
returns-in-Some-clause-turns c =
    let on = subst (λ l. TurnsOn c.turn-taken.new.dispatcher [] (offer_from c.args.source l)
    c.turn_freed-in-Some.result
    c.turn_freed-in-Some.new.dispatcher) (take_rest c.args.piece.now c.turn-taken.result)
    c.turn_freed-in-Some.ensures.turns in
    subst (λ (o : Option ℕ). TurnsOn c.args.dispatcher.now (option_to_list o) (offer_from c.args.source
    c.args.piece.now)
    (c.turn-taken.result + c.turn_freed-in-Some.result) c.turn_freed-in-Some.new.dispatcher)
    (sym c.in-Some.is)
    (first_on c.args.dispatcher.now c.turn-taken.new.dispatcher c.turn_freed-in-Some.new.dispatcher
    c.in-Some.connection
    (offer_from c.args.source c.args.piece.now) c.turn-taken.result c.turn_freed-in-Some.result
    c.turn-taken.ensures.turn c.turn-taken.ensures.stopped c.turn-taken.ensures.stops on)
