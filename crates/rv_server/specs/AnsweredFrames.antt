-- How a worker answers frames: one answer for each, in order, by the stamps that it got for it.
use Rattle.std.specs.Prelude.{ℕ, ◌≡◌, ◌+◌, ◌∷◌, ◌++◌, [], List}
use Rattle.rv_text.specs.declared.answer.Answer.{Answer}
use Rattle.rv_text.specs.declared.answer.Refusal.TheVariants as refusal
use Rattle.rv_text.specs.Bodies.{answer_text, refused_text}
use Rattle.rv_frame.specs.Cut.{IsFrameBody}
use Rattle.rv_server.specs.locked.Stamps.{Numbered}
use Rattle.rv_server.specs.locked.FrameStamps.{AreFor, IsNoMessage, LastSays}
use Rattle.rv_server.specs.declared.locked.item.Item.{Item}
use Rattle.rv_server.specs.declared.locked.item.Item.TheVariants.{BadText, NoMemory, Said}

-- one frame that was answered: its body, the stamps that were got for it, and the body of its answer
pub record AnsweredFrame : Type 0 where
  pub body : List ℕ
  pub stamps : List Numbered
  pub item : Item
  pub answer : List ℕ

-- what the answer's body says, by its kind, the frame's body and the stamps
abbrev pub BodySays : Item → List ℕ → List Numbered → List ℕ → Type 0
BodySays BadText body stamps answer = IsNoMessage body × (answer ≡ refused_text refusal.BadText)
BodySays NoMemory body stamps answer = answer ≡ refused_text refusal.NoMemory
BodySays Said body stamps answer = (said : Answer) × LastSays stamps said × (answer ≡ answer_text said)

pub record IsAnsweredFrame (number : ℕ) (frame : AnsweredFrame) : Type 0 where
  pub own : AreFor number frame.body frame.stamps
  pub fits : IsFrameBody frame.answer
  pub says : BodySays frame.item frame.body frame.stamps frame.answer

-- the frames were answered rightly, and are numbered from this number on
abbrev pub AreAnsweredFrames : ℕ → List AnsweredFrame → Type 0
AreAnsweredFrames number [] = Unit {0}
AreAnsweredFrames number (frame ∷ answered) = IsAnsweredFrame number frame × AreAnsweredFrames
    (number + 1) answered

-- the stamps of all these frames
abbrev pub stamps_of : List AnsweredFrame → List Numbered
stamps_of [] = []
stamps_of (frame ∷ answered) = frame.stamps ++ stamps_of answered
