-- What a call does: its one request is sent again until an answer says something final.
use Rattle.std.specs.Prelude.{ℕ, ◌≡◌, ◌<◌, List, Option, Some, None, Ok, Err, length, replicate}
use Rattle.std.specs.List.{All}
use Rattle.rv_text.specs.Bodies.{IsAnswerBody, message_text}
use Rattle.rv_text.specs.declared.answer.Answer.{Answer}
use Rattle.rv_frame.specs.Cut.{row_bytes}
use Rattle.rv_frame.specs.Sink.{sink_failed}
use Rattle.rv_frame.specs.Source.{source_failed}
use Rattle.rv_client.specs.declared.calling.CallOutcome.{CallOutcome}
use Rattle.rv_client.specs.declared.calling.CallOutcome.TheVariants as called
use Rattle.rv_client.specs.Link.{Asks, Link, Moves, message_frame}
use Rattle.rv_client.specs.Process.{Asking, Hears, Outcome, SaysNothingFinal, request_of}
use Rattle.rv_client.specs.Process as process

-- this is the body of an answer that says nothing final about the request
abbrev pub IsIgnored : Asking → List ℕ → Type 0
IsIgnored asking body = (answer : Answer) × IsAnswerBody body answer × SaysNothingFinal asking.key answer

module _ {R W : Type 0} (remaining : R → Option (List ℕ)) (contents : W → Option (List ℕ)) where
  -- the request went out this many times, in one frame after the other, and each time the frame of an answer
  -- came in that says nothing final; if it never went out, nothing happened
  pub record AsksInVain (asking : Asking) (before after : Link R W) (times : ℕ) : Type 0 where
    pub bodies : List (List ℕ)
    pub each : length bodies ≡ times
    pub ignored : All (IsIgnored asking) bodies
    pub moves : Moves remaining contents before after
        (row_bytes (replicate times (message_text (request_of asking)))) (row_bytes bodies)
    pub same_source : source_failed after.source ≡ source_failed before.source
    pub same_sink : sink_failed after.sink ≡ sink_failed before.sink
    pub nothing : times ≡ 0 → after ≡ before

  -- the request went out once, and an answer with this outcome came in
  pub record Decides (asking : Asking) (before after : Link R W) (outcome : Outcome) : Type 0 where
    pub answer : Answer
    pub asks : Asks remaining contents (message_frame (request_of asking)) before after (Ok answer)
    pub hears : Hears (process.Outstanding asking) answer outcome

  -- the request was asked once, and that is the end of the call
  abbrev pub EndsBy : Asking → Link R W → Link R W → CallOutcome → Type 0
  EndsBy asking before after (called.Settled next reply) =
      Decides asking before after (process.Settled next reply)
  EndsBy asking before after (called.EpochEnded key current) =
      Decides asking before after (process.EpochEnded key current)
  EndsBy asking before after (called.Replaced key current) =
      Decides asking before after (process.Replaced key current)
  EndsBy asking before after (called.Unsettled same (Some fault)) =
      (same ≡ asking) × Asks remaining contents (message_frame (request_of asking)) before after (Err fault)
  EndsBy asking before after (called.Unsettled same None) = ⊥

  -- after fewer tries than are allowed, which brought nothing final, one more ends the call
  pub record EndsWithin (asking : Asking) (tries : ℕ) (before after : Link R W) (outcome : CallOutcome)
      : Type 0 where
    pub times : ℕ
    pub fewer : times < tries
    pub between : Link R W
    pub in_vain : AsksInVain asking before between times
    pub ends : EndsBy asking between after outcome

  -- a call is unsettled with no fault after as many answers as there may be tries, none of which was final;
  -- otherwise one of the tries ends it
  abbrev pub Calls : Asking → ℕ → Link R W → Link R W → CallOutcome → Type 0
  Calls asking tries before after (called.Unsettled same None) =
      (same ≡ asking) × AsksInVain asking before after tries
  Calls asking tries before after outcome = EndsWithin asking tries before after outcome
