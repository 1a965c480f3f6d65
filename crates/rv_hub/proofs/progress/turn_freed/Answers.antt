-- The first of those that were freed goes on, with what is left of the piece.
use Rattle.std.proofs.Common.{◌<◌, arith, length, subst}
use Rattle.std.proofs.lemmas.List.{take_rest}
use Rattle.rv_hub.specs.dispatcher.Fields.{dispatcher_state}
use Rattle.rv_hub.specs.dispatcher.Going.{TakesItsTurn}
use Rattle.rv_hub.specs.dispatcher.Rest.{TakesNoMore}
use Rattle.rv_hub.specs.Steps.{offer_from}
use Rattle.rv_hub.specs.Turns.{offered_to}
use Rattle.rv_hub.proofs.Rounds.{far_begun, far_ended, far_on, far_smaller, far_within, steady_freed}
use Rattle.rv_hub.proofs.progress.turn_freed.Goals as goal

pub loop-connection-init : goal.loop-connection-init
loop-connection-init c = (
  c.requires.steady,
  far_begun c.args.dispatcher.now c.args.source c.args.piece.now c.requires.going c.requires.offering,
)

pub turn-taken-requires : goal.turn-taken-requires
turn-taken-requires c =
    steady_freed c.loop-connection.dispatcher c.next_freed.new.self c.next_freed.ensures.rest
    c.loop-connection.invariant.0

pub overflow_add-taken : goal.overflow_add-taken
overflow_add-taken c =
    let takes = subst (λ l. TakesItsTurn c.next_freed.new.self c.in-Some.connection
    (offered_to (offer_from c.args.source l) c.in-Some.connection) c.turn-taken.result
    c.turn-taken.new.dispatcher)
    (take_rest c.args.piece.now c.loop-connection.taken) c.turn-taken.ensures.turn in
    let within = far_within c.next_freed.new.self c.turn-taken.new.dispatcher c.args.source c.args.piece.now
    c.loop-connection.taken c.in-Some.connection c.turn-taken.result c.loop-connection.invariant.1.within
    takes in
    omega arith

pub loop-connection-smaller : goal.loop-connection-smaller
loop-connection-smaller c =
    let takes = subst (λ l. TakesItsTurn c.next_freed.new.self c.in-Some.connection
    (offered_to (offer_from c.args.source l) c.in-Some.connection) c.turn-taken.result
    c.turn-taken.new.dispatcher)
    (take_rest c.args.piece.now c.loop-connection.taken) c.turn-taken.ensures.turn in
    far_smaller c.loop-connection.dispatcher c.next_freed.new.self c.turn-taken.new.dispatcher c.args.source
    c.args.piece.now
    c.loop-connection.taken c.in-Some.connection c.turn-taken.result c.in-Some.ensures.first
    c.next_freed.ensures.rest c.loop-connection.invariant.1.within takes

pub loop-connection-preserved : goal.loop-connection-preserved
loop-connection-preserved c =
    let takes = subst (λ l. TakesItsTurn c.next_freed.new.self c.in-Some.connection
    (offered_to (offer_from c.args.source l) c.in-Some.connection) c.turn-taken.result
    c.turn-taken.new.dispatcher)
    (take_rest c.args.piece.now c.loop-connection.taken) c.turn-taken.ensures.turn in
    let stops = subst (λ l. c.turn-taken.result
    < length (offered_to (offer_from c.args.source l) c.in-Some.connection)
    → TakesNoMore (dispatcher_state c.turn-taken.new.dispatcher) c.in-Some.connection)
    (take_rest c.args.piece.now c.loop-connection.taken) c.turn-taken.ensures.stops in (
      c.turn-taken.ensures.steady,
      far_on c.args.dispatcher.now c.loop-connection.dispatcher c.next_freed.new.self
          c.turn-taken.new.dispatcher c.args.source
          c.args.piece.now c.loop-connection.taken c.in-Some.connection c.turn-taken.result
          c.loop-connection.invariant.1 c.in-Some.ensures.first c.next_freed.ensures.rest takes
          c.turn-taken.ensures.stopped stops,
    )

pub returns-clause-steady : goal.returns-clause-steady
returns-clause-steady c =
    steady_freed c.loop-connection.dispatcher c.next_freed.new.self c.next_freed.ensures.rest
    c.loop-connection.invariant.0

pub returns-clause-turns : goal.returns-clause-turns
returns-clause-turns c =
    far_ended c.args.dispatcher.now c.loop-connection.dispatcher c.next_freed.new.self c.args.source
    c.args.piece.now
    c.loop-connection.taken c.loop-connection.invariant.1 c.in_default.ensures.first c.in_default.ensures.none
    c.next_freed.ensures.rest
