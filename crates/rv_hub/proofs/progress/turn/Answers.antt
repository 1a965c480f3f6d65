-- The piece is offered to its own connection.
use Rattle.std.proofs.Common.{◌<◌, length, subst, sym}
use Rattle.rv_hub.specs.dispatcher.Fields.{dispatcher_state}
use Rattle.rv_hub.specs.dispatcher.Going.{TakesItsTurn}
use Rattle.rv_hub.specs.dispatcher.Rest.{TakesNoMore}
use Rattle.rv_hub.specs.Steps.{offer_from}
use Rattle.rv_hub.proofs.Staying.{offered_other, offered_own}
use Rattle.rv_hub.proofs.progress.turn.Goals as goal

pub returns-then-source-connection-clause-turn : goal.returns-then-source-connection-clause-turn
returns-then-source-connection-clause-turn c =
    subst (λ l. TakesItsTurn c.args.dispatcher.now c.args.connection l c.turn.result c.turn.new.self)
    (sym (offered_own (offer_from c.args.source c.args.piece.now) c.args.connection
    c.if-source-connection.true))
    c.turn.ensures.turn

pub returns-then-source-connection-clause-stops : goal.returns-then-source-connection-clause-stops
returns-then-source-connection-clause-stops c =
    subst (λ l. c.turn.result < length l → TakesNoMore (dispatcher_state c.turn.new.self) c.args.connection)
    (sym (offered_own (offer_from c.args.source c.args.piece.now) c.args.connection
    c.if-source-connection.true))
    c.turn.ensures.stops

pub returns-else-source-connection-clause-turn : goal.returns-else-source-connection-clause-turn
returns-else-source-connection-clause-turn c =
    subst (λ l. TakesItsTurn c.args.dispatcher.now c.args.connection l c.turn-else-source-connection.result
    c.turn-else-source-connection.new.self)
    (sym (offered_other (offer_from c.args.source c.args.piece.now) c.args.connection
    c.if-source-connection.false))
    c.turn-else-source-connection.ensures.turn

pub returns-else-source-connection-clause-stops : goal.returns-else-source-connection-clause-stops
returns-else-source-connection-clause-stops c =
    subst (λ l. c.turn-else-source-connection.result < length l
    → TakesNoMore (dispatcher_state c.turn-else-source-connection.new.self) c.args.connection)
    (sym (offered_other (offer_from c.args.source c.args.piece.now) c.args.connection
    c.if-source-connection.false))
    c.turn-else-source-connection.ensures.stops
