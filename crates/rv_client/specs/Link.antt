-- A link: what goes out and comes in while a request is asked, for an answer and for each fault.
use Rattle.std.specs.Prelude.{ℕ, ◌≡◌, ◌<◌, ◌⊎◌, List, Option, Result, Ok, Err, true, false, length, take}
use Rattle.rv_text.specs.Bodies.{IsAnswerBody, message_text}
use Rattle.rv_text.specs.declared.answer.Answer.{Answer}
use Rattle.rv_text.specs.declared.message.Message.{Message}
use Rattle.rv_frame.specs.Cut.{FitsLength, IsFrameBody, IsUnfinished, frame_bytes, length_bytes}
use Rattle.rv_frame.specs.Sink.{SinkTakes, sink_failed}
use Rattle.rv_frame.specs.Source.{SourceGives, SourceHasEnded, source_failed}
use Rattle.rv_frame.specs.declared.sink.Sink.{Sink}
use Rattle.rv_frame.specs.declared.source.Source.{Source}
use Rattle.rv_client.specs.declared.fault.LinkFault.{LinkFault}
use Rattle.rv_client.specs.declared.fault.LinkFault.TheVariants.{ReadFault, WriteFault, Closed, BadFrame}
use Rattle.rv_client.specs.declared.fault.LinkFault.TheVariants.{BadBody, NoMemory}

-- the bytes in which a message goes out: the frame of its text
abbrev pub message_frame : Message → List ℕ
message_frame message = frame_bytes (message_text message)

-- no answer has this body
abbrev pub IsNoAnswer : List ℕ → Type 0
IsNoAnswer body = (answer : Answer) → ¬ IsAnswerBody body answer

-- what comes in, and what goes out
pub record Link (R W : Type 0) : Type 0 where
  pub source : Source R
  pub sink : Sink W

abbrev pub link : {R W : Type 0} → Source R → Sink W → Link R W
link source sink = record { source = source; sink = sink }

module _ {R W : Type 0} where
  -- no read and no write failed, before and after
  pub record LinkHolds (before after : Link R W) : Type 0 where
    pub read_before : source_failed before.source ≡ false
    pub read_after : source_failed after.source ≡ false
    pub write_before : sink_failed before.sink ≡ false
    pub write_after : sink_failed after.sink ≡ false

module _ {R W : Type 0} (remaining : R → Option (List ℕ)) (contents : W → Option (List ℕ)) where
  -- exactly these bytes went out, and exactly these came in
  pub record Moves (before after : Link R W) (out inward : List ℕ) : Type 0 where
    pub sent : SinkTakes contents before.sink after.sink out
    pub given : SourceGives remaining before.source after.source inward

  -- the whole request went out, and the frame of a body with a property came in
  pub record ReadsBody (request : List ℕ) (before after : Link R W) (Has : List ℕ → Type 0) : Type 0 where
    pub body : List ℕ
    pub is_body : IsFrameBody body
    pub has : Has body
    pub moves : Moves before after request (frame_bytes body)
    pub works : LinkHolds before after

  -- the whole request went out, and no whole frame came in: only these bytes, and then a read failed; a
  -- source that had failed before gives nothing
  pub record FailsReading (request : List ℕ) (before after : Link R W) : Type 0 where
    pub bytes : List ℕ
    pub unfinished : IsUnfinished bytes
    pub moves : Moves before after request bytes
    pub failed : source_failed after.source ≡ true
    pub stays_failed : source_failed before.source ≡ true → after.source ≡ before.source
    pub write_before : sink_failed before.sink ≡ false
    pub write_after : sink_failed after.sink ≡ false

  -- the same, and the source is at its end
  pub record Ends (request : List ℕ) (before after : Link R W) : Type 0 where
    pub bytes : List ℕ
    pub unfinished : IsUnfinished bytes
    pub moves : Moves before after request bytes
    pub ended : SourceHasEnded remaining after.source
    pub works : LinkHolds before after

  -- the whole request went out, and the two bytes that came in are a bad length
  pub record MeetsBadLength (request : List ℕ) (before after : Link R W) : Type 0 where
    pub n : ℕ
    pub is_bad : ¬ FitsLength n
    pub moves : Moves before after request (length_bytes n)
    pub works : LinkHolds before after

  -- only the first so many bytes of the request went out, not all, and a write failed; a sink that had failed
  -- before takes none; nothing was read
  pub record FailsWriting (request : List ℕ) (before after : Link R W) (sent : ℕ) : Type 0 where
    pub not_all : sent < length request
    pub front : SinkTakes contents before.sink after.sink (take sent request)
    pub failed : sink_failed after.sink ≡ true
    pub stays_failed : sink_failed before.sink ≡ true → (sent ≡ 0) × (after.sink ≡ before.sink)
    pub nothing_read : after.source ≡ before.source

  -- what holds of a link after a request was asked once, by what came of it; memory is refused before
  -- anything happened, or after the answer's frame was read
  abbrev pub Asks : List ℕ → Link R W → Link R W → Result Answer LinkFault → Type 0
  Asks request before after (Ok answer) = ReadsBody request before after (λ body. IsAnswerBody body answer)
  Asks request before after (Err ReadFault) = FailsReading request before after
  Asks request before after (Err (WriteFault sent)) = FailsWriting request before after sent
  Asks request before after (Err Closed) = Ends request before after
  Asks request before after (Err BadFrame) = MeetsBadLength request before after
  Asks request before after (Err BadBody) = ReadsBody request before after IsNoAnswer
  Asks request before after (Err NoMemory) =
      (after ≡ before) ⊎ ReadsBody request before after (λ body. Unit {0})
