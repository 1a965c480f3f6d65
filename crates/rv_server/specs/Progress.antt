-- How far a worker has come, and what one more frame does.
use Rattle.std.specs.Prelude.{ℕ, ◌≡◌, ◌+◌, ◌<◌, ◌⊎◌, ◌∷◌, ◌++◌, [], List, Option, map, length, take, true}
use Rattle.rv_frame.specs.Cut.{frame_bytes, row_bytes}
use Rattle.rv_frame.specs.Sink.{SinkTakes, sink_failed}
use Rattle.rv_frame.specs.Stream.{HasFed, Stream}
use Rattle.rv_frame.specs.declared.sink.Sink.{Sink}
use Rattle.rv_frame.specs.Source.{SourceGives}
use Rattle.rv_server.specs.declared.fault.WorkFault.{WorkFault}
use Rattle.rv_server.specs.declared.fault.WorkFault.TheVariants.{NoMemory, WriteFault}
use Rattle.rv_server.specs.locked.Stamps.{Numbered, added_entries}
use Rattle.rv_server.specs.AnsweredFrames.{AnsweredFrame, AreAnsweredFrames, IsAnsweredFrame, stamps_of}
use Rattle.rv_server.specs.locked.Asking.{Cover, GetsStamps}
use Rattle.rv_server.specs.Asking.{OnlyWaited}
use Rattle.rv_server.specs.Works.{Connection, Listed}

-- where answers go: the sink, and the share of the seat
pub record Out (W : Type 0) : Type 0 where
  pub sink : Sink W
  pub share : ℕ

abbrev pub out : {W : Type 0} → Sink W → ℕ → Out W
out sink share = record { sink = sink; share = share }

module _ {W : Type 0} (contents : W → Option (List ℕ)) where
  -- the frame of this number and body was answered
  pub record AnswersFrame (number : ℕ) (body : List ℕ) (before after : Out W) (old new : Listed)
      : Type 0 where
    pub frame : AnsweredFrame
    pub of : frame.body ≡ body
    pub is : IsAnsweredFrame number frame
    pub items : new.items ≡ old.items ++ frame.item ∷ []
    pub stamps : GetsStamps number body before.share old.stamps after.share new.stamps frame.stamps
    pub written : SinkTakes contents before.sink after.sink (frame_bytes frame.answer)

  -- its answer went out in part
  pub record BreaksFrame (number : ℕ) (body : List ℕ) (before after : Out W) (old new : Listed) (sent : ℕ)
      : Type 0 where
    pub frame : AnsweredFrame
    pub of : frame.body ≡ body
    pub is : IsAnsweredFrame number frame
    pub items : new.items ≡ old.items
    pub stamps : GetsStamps number body before.share old.stamps after.share new.stamps frame.stamps
    pub part : sent < length (frame_bytes frame.answer)
    pub written : SinkTakes contents before.sink after.sink (take sent (frame_bytes frame.answer))
    pub failed : sink_failed after.sink ≡ true

  -- it was not answered, since memory was refused
  pub record LacksFrame (number : ℕ) (body : List ℕ) (before after : Out W) (old new : Listed) : Type 0 where
    pub got : List Numbered
    pub items : new.items ≡ old.items
    pub stamps : GetsStamps number body before.share old.stamps after.share new.stamps got
    pub none_written : SinkTakes contents before.sink after.sink []

  -- it was not answered, since the sink failed where a pause was to come
  pub record FailsBeforePause (number : ℕ) (body : List ℕ) (before after : Out W) (old new : Listed)
      (sent : ℕ) : Type 0 where
    pub none : sent ≡ 0
    pub items : new.items ≡ old.items
    pub waited : OnlyWaited number body before.share old.stamps after.share new.stamps
    pub none_written : SinkTakes contents before.sink after.sink []
    pub failed : sink_failed after.sink ≡ true

  abbrev pub StopsAtFrame : ℕ → List ℕ → Out W → Out W → Listed → Listed → WorkFault → Type 0
  StopsAtFrame number body before after old new (WriteFault sent) =
      BreaksFrame number body before after old new sent
      ⊎ FailsBeforePause number body before after old new sent
  StopsAtFrame number body before after old new NoMemory = LacksFrame number body before after old new
  StopsAtFrame number body before after old new _ = ⊥

module _ {R W : Type 0} (remaining : R → Option (List ℕ)) (contents : W → Option (List ℕ)) where
  -- so many frames were answered, which are all that were taken from the stream
  pub record Progress (before after : Connection R W) (listed : Listed) (stream : Stream) (number : ℕ)
      : Type 0 where
    pub bytes : List ℕ
    pub answered : List AnsweredFrame
    pub count : length answered ≡ number
    pub read : SourceGives remaining before.source after.source bytes
    pub fed : HasFed bytes (map (λ (frame : AnsweredFrame). frame.body) answered) stream
    pub right : AreAnsweredFrames 0 answered
    pub items : listed.items ≡ map (λ (frame : AnsweredFrame). frame.item) answered
    pub stamps : listed.stamps ≡ stamps_of answered
    pub written : SinkTakes contents before.sink after.sink
        (row_bytes (map (λ (frame : AnsweredFrame). frame.answer) answered))
    pub share : after.share ≡ before.share + added_entries listed.stamps
    pub cover : Cover before.share listed.stamps
