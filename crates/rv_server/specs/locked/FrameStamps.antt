-- The stamps that were got for one frame.
use Rattle.std.specs.Prelude.{ℕ, ◌≡◌, ◌≤◌, ◌∷◌, ◌++◌, [], List}
use Rattle.std.specs.List.{All}
use Rattle.rv_text.specs.declared.message.Message.{Message}
use Rattle.rv_text.specs.declared.message.Key.{Key}
use Rattle.rv_text.specs.declared.answer.Answer.{Answer}
use Rattle.rv_text.specs.declared.answer.Answer.TheVariants.{Waiting}
use Rattle.rv_text.specs.Bodies.{IsMessageBody}
use Rattle.rv_server.specs.locked.Stamps.{Numbered}

-- no message has this body
abbrev pub IsNoMessage : List ℕ → Type 0
IsNoMessage body = (message : Message) → ¬ IsMessageBody body message

abbrev pub IsWaiting : Answer → Type 0
IsWaiting answer = (key : Key) × (answer ≡ Waiting key)

-- the stamp was got for the frame of this number and body
pub record IsFor (number : ℕ) (body : List ℕ) (stamp : Numbered) : Type 0 where
  pub number_is : stamp.0 ≡ number
  pub asked : IsMessageBody body stamp.1.asked
  pub grows : stamp.1.before ≤ stamp.1.length

-- each stamp that another follows stands for an answer that waits
abbrev pub WaitsBetween : List Numbered → Type 0
WaitsBetween [] = Unit {0}
WaitsBetween (stamp ∷ []) = Unit {0}
WaitsBetween (stamp ∷ next ∷ stamps) = IsWaiting stamp.1.said × WaitsBetween (next ∷ stamps)

-- the stamps were got for that frame, and asked for again only while the answer waited
pub record AreFor (number : ℕ) (body : List ℕ) (stamps : List Numbered) : Type 0 where
  pub each : All (IsFor number body) stamps
  pub waited : WaitsBetween stamps

-- the last of the stamps stands for this answer, and all before it for one that waits
pub record LastSays (stamps : List Numbered) (answer : Answer) : Type 0 where
  pub front : List Numbered
  pub last : Numbered
  pub are : stamps ≡ front ++ last ∷ []
  pub said : last.1.said ≡ answer
  pub waited : All (λ (stamp : Numbered). IsWaiting stamp.1.said) front
