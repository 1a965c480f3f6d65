-- The frame that answers another, by what the desk said of that one.
use Rattle.std.specs.Prelude.{ℕ, ◌≡◌, ◌<◌, List, Option, length, take, true}
use Rattle.rv_text.specs.Bodies.{answer_text, refused_text}
use Rattle.rv_text.specs.Limits.{FitsAnswer}
use Rattle.rv_text.specs.declared.answer.Refusal.TheVariants as refusal
use Rattle.rv_frame.specs.Cut.{IsFrameBody, frame_bytes}
use Rattle.rv_frame.specs.Sink.{SinkTakes, sink_failed}
use Rattle.rv_frame.specs.declared.sink.Sink.{Sink}
use Rattle.rv_server.specs.declared.locked.asking.FrameAnswer.{FrameAnswer}
use Rattle.rv_server.specs.declared.locked.asking.FrameAnswer.TheVariants as told
use Rattle.rv_server.specs.declared.locked.item.Item.{Item}
use Rattle.rv_server.specs.declared.locked.item.Item.TheVariants as item

abbrev pub FitsTold : FrameAnswer → Type 0
FitsTold (told.Said answer) = FitsAnswer answer
FitsTold _ = Unit {0}

-- the body that answers, and the item that stands for it: the refusal for lack of memory may take the place
-- of an answer's text
abbrev pub IsAnswer : FrameAnswer → Item → List ℕ → Type 0
IsAnswer told item.NoMemory answer = answer ≡ refused_text refusal.NoMemory
IsAnswer told.BadText item.BadText answer = answer ≡ refused_text refusal.BadText
IsAnswer (told.Said said) item.Said answer = answer ≡ answer_text said
IsAnswer _ _ answer = ⊥

module _ {W : Type 0} (contents : W → Option (List ℕ)) where
  pub record WritesAnswer (old new : Sink W) (told : FrameAnswer) (item : Item) : Type 0 where
    pub answer : List ℕ
    pub is : IsAnswer told item answer
    pub fits : IsFrameBody answer
    pub written : SinkTakes contents old new (frame_bytes answer)

  -- only the first so many bytes went out, and not all
  pub record WritesPart (old new : Sink W) (told : FrameAnswer) (sent : ℕ) : Type 0 where
    pub item : Item
    pub answer : List ℕ
    pub is : IsAnswer told item answer
    pub fits : IsFrameBody answer
    pub part : sent < length (frame_bytes answer)
    pub written : SinkTakes contents old new (take sent (frame_bytes answer))
    pub failed : sink_failed new ≡ true
