-- Bytes, and a frame, one after another.
use Rattle.std.proofs.Common.{◌<◌, length, subst}
use Rattle.std.proofs.lemmas.List.{take_rest}
use Rattle.rv_hub.specs.dispatcher.Going.{FeedsPiece}
use Rattle.rv_hub.specs.dispatcher.Rest.{TakesNoMore}
use Rattle.rv_hub.specs.dispatcher.Fields.{dispatcher_state}
use Rattle.rv_hub.proofs.OfDispatcher.Turning.{smaller, turn_begun, turn_ended, turn_on}
use Rattle.rv_hub.proofs.dispatcher.Dispatcher.turn.Goals as goal

pub loop-self-init : goal.loop-self-init
loop-self-init c = (
  c.feed-taken.ensures.steady,
  turn_begun c.args.self.now c.feed-taken.new.self c.args.connection c.args.piece.now c.feed-taken.result
      c.feed-taken.ensures.feeds c.feed-taken.ensures.stops,
)

pub loop-self-smaller : goal.loop-self-smaller
loop-self-smaller c =
    let feeds = subst (λ l. FeedsPiece c.go_on.new.self c.args.connection l c.feed-taken-in-loop-self.result
    c.feed-taken-in-loop-self.new.self) (take_rest c.args.piece.now c.loop-self.taken)
    c.feed-taken-in-loop-self.ensures.feeds in
    smaller c.loop-self.self c.go_on.new.self c.feed-taken-in-loop-self.new.self c.args.connection
    c.args.piece.now
    c.loop-self.taken c.feed-taken-in-loop-self.result c.loop-self-test.ensures.strides feeds

pub loop-self-preserved : goal.loop-self-preserved
loop-self-preserved c =
    let feeds = subst (λ l. FeedsPiece c.go_on.new.self c.args.connection l c.feed-taken-in-loop-self.result
    c.feed-taken-in-loop-self.new.self) (take_rest c.args.piece.now c.loop-self.taken)
    c.feed-taken-in-loop-self.ensures.feeds in
    let stops = subst (λ l. c.feed-taken-in-loop-self.result < length l
    → TakesNoMore (dispatcher_state c.feed-taken-in-loop-self.new.self) c.args.connection)
    (take_rest c.args.piece.now c.loop-self.taken) c.feed-taken-in-loop-self.ensures.stops in (
      c.feed-taken-in-loop-self.ensures.steady,
      turn_on c.args.self.now c.loop-self.self c.go_on.new.self c.feed-taken-in-loop-self.new.self
          c.args.connection
          c.args.piece.now c.loop-self.taken c.feed-taken-in-loop-self.result c.loop-self.invariant.1
          c.loop-self-test.ensures.strides feeds stops,
    )

pub returns-clause-turn : goal.returns-clause-turn
returns-clause-turn c =
    turn_ended c.args.self.now c.loop-self.self c.go_on.new.self c.args.connection c.args.piece.now
    c.loop-self.taken c.loop-self.invariant.1 c.loop-self-test.ensures.finishes
