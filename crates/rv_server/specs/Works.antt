-- What holds after a worker read a connection to its end, or stopped.
use Rattle.std.specs.Prelude.{ℕ, ◌≡◌, ◌≢◌, ◌⊎◌, ◌+◌, ◌<◌, ◌≤◌, ◌∷◌, ◌++◌, [], List, Option, None, Some}
use Rattle.std.specs.Prelude.{map, length, take, true}
use Rattle.std.specs.List.{All}
use Rattle.rv_frame.specs.Cut.{Bad, Cut, End, Open, frame_bytes, row_bytes}
use Rattle.rv_frame.specs.Sink.{SinkTakes, sink_failed}
use Rattle.rv_frame.specs.Source.{SourceGives, SourceHasEnded, source_failed}
use Rattle.rv_frame.specs.declared.sink.Sink.{Sink}
use Rattle.rv_frame.specs.declared.source.Source.{Source}
use Rattle.rv_server.specs.declared.fault.WorkFault.{WorkFault}
use Rattle.rv_server.specs.declared.fault.WorkFault.TheVariants.{BadLength, CutFrame, NoMemory, ReadFault}
use Rattle.rv_server.specs.declared.fault.WorkFault.TheVariants.{TooLong, WriteFault}
use Rattle.rv_server.specs.declared.locked.item.Item.{Item}
use Rattle.rv_server.specs.declared.served.Served.{Served}
use Rattle.rv_server.specs.locked.Stamps.{Covers, Numbered, Stamped, added_entries, shown_stamps}
use Rattle.rv_server.specs.locked.FrameStamps.{AreFor, IsWaiting}
use Rattle.rv_server.specs.AnsweredFrames.{AnsweredFrame, AreAnsweredFrames, IsAnsweredFrame, stamps_of}

-- the most frames of a connection
abbrev pub max_frames : ℕ
max_frames = 65536

-- the bytes of a frame that isn't whole
pub record IsCut (end : End) : Type 0 where
  pub rest : List ℕ
  pub is : end ≡ Open rest
  pub some : rest ≢ []

-- a connection, and the share of the seat that serves it
pub record Connection (R W : Type 0) : Type 0 where
  pub source : Source R
  pub sink : Sink W
  pub share : ℕ

abbrev pub connection : {R W : Type 0} → Source R → Sink W → ℕ → Connection R W
connection source sink share = record { source = source; sink = sink; share = share }

-- what is reported of the frames: an item for each that was answered, and every stamp
pub record Listed : Type 0 where
  pub items : List Item
  pub stamps : List Numbered

abbrev pub listing_of : {D : Type 0} → {S : Type 0} → (S → Stamped) → Served D S → Listed
listing_of stamped served =
    record { items = served.items.items; stamps = shown_stamps stamped served.stamps.items }

abbrev pub nothing : Listed
nothing = record { items = []; stamps = [] }

-- the stamps were got for the first of these frames; there are none where there is no such frame
abbrev pub AreForNext : ℕ → List (List ℕ) → List Numbered → Type 0
AreForNext number [] stamps = stamps ≡ []
AreForNext number (body ∷ bodies) stamps = AreFor number body stamps

module _ {R W : Type 0} (remaining : R → Option (List ℕ)) (contents : W → Option (List ℕ)) where
  -- the bytes that were read are the answered frames, then these other frames, and this end; the answers of
  -- the first were written, and then these bytes; after their stamps come these, for the next frame
  pub record Worked (before after : Connection R W) (list : Listed) (more : List (List ℕ)) (end : End)
      (pending : List Numbered) (broken : List ℕ) : Type 0 where
    pub bytes : List ℕ
    pub answered : List AnsweredFrame
    pub read : SourceGives remaining before.source after.source bytes
    pub cut : Cut bytes (map (λ (frame : AnsweredFrame). frame.body) answered ++ more) end
    pub right : AreAnsweredFrames 0 answered
    pub items : list.items ≡ map (λ (frame : AnsweredFrame). frame.item) answered
    pub stamps : list.stamps ≡ stamps_of answered ++ pending
    pub pending_are : AreForNext (length answered) more pending
    pub written : SinkTakes contents before.sink after.sink
        (row_bytes (map (λ (frame : AnsweredFrame). frame.answer) answered) ++ broken)
    pub share : after.share ≡ before.share + added_entries list.stamps
    pub cover : Covers before.share list.stamps
    pub few : length answered ≤ max_frames

  -- all frames were answered, and this follows them
  abbrev pub WorkedOut : Connection R W → Connection R W → Listed → End → Type 0
  WorkedOut before after list end = Worked before after list [] end [] []

  -- the answer of the next frame went out in part, or not at all
  pub record AnswerBreaksOff (before after : Connection R W) (list : Listed) (sent : ℕ) : Type 0 where
    pub frame : AnsweredFrame
    pub is : IsAnsweredFrame (length list.items) frame
    pub few : length list.items < max_frames
    pub later : List (List ℕ)
    pub end : End
    pub part : sent < length (frame_bytes frame.answer)
    pub worked : Worked before after list (frame.body ∷ later) end frame.stamps
        (take sent (frame_bytes frame.answer))

  -- nothing of the next frame's answer was written; stamps were got for it, or none
  pub record StopsBetween (before after : Connection R W) (list : Listed) : Type 0 where
    pub more : List (List ℕ)
    pub end : End
    pub pending : List Numbered
    pub few : (pending ≡ []) ⊎ (length list.items < max_frames)
    pub worked : Worked before after list more end pending []

  -- a flush failed, before a read or before a pause: all stamps that were got for the next frame stand for
  -- answers that wait
  pub record FlushFails (before after : Connection R W) (list : Listed) (sent : ℕ) : Type 0 where
    pub none : sent ≡ 0
    pub stops : StopsBetween before after list
    pub waited : All (λ (stamp : Numbered). IsWaiting stamp.1.said) stops.pending

  -- sending failed: a write, so that only so many bytes of the next frame's answer went out, and not all; or
  -- a flush
  pub record SendingFails (before after : Connection R W) (list : Listed) (sent : ℕ) : Type 0 where
    pub how : AnswerBreaksOff before after list sent ⊎ FlushFails before after list sent
    pub failed : sink_failed after.sink ≡ true

  -- what holds after this fault, or after none
  abbrev pub Works : Connection R W → Connection R W → Listed → Option WorkFault → Type 0
  Works before after list None = WorkedOut before after list (Open []) × SourceHasEnded remaining after.source
  Works before after list (Some ReadFault) =
      (end : End) × WorkedOut before after list end × (source_failed after.source ≡ true)
  Works before after list (Some (WriteFault sent)) = SendingFails before after list sent
  Works before after list (Some CutFrame) =
      (end : End) × WorkedOut before after list end × IsCut end × SourceHasEnded remaining after.source
  Works before after list (Some (BadLength n)) = WorkedOut before after list (Bad n)
  Works before after list (Some NoMemory) = StopsBetween before after list
  Works before after list (Some TooLong) = (body : List ℕ) × (later : List (List ℕ)) × (end : End)
      × Worked before after list (body ∷ later) end [] [] × (length list.items ≡ max_frames)
