-- What is got for one frame by asking the desk for it once.
use Rattle.std.specs.Prelude.{ℕ, ◌≡◌, ◌+◌, ◌≤◌, ◌∷◌, ◌++◌, [], List}
use Rattle.rv_text.specs.Limits.{FitsAnswer}
use Rattle.rv_text.specs.declared.message.Message.{Message}
use Rattle.rv_server.specs.locked.Stamps.{Numbered, Stamped, added_entries, added_by}
use Rattle.rv_server.specs.locked.FrameStamps.{AreFor, IsNoMessage, LastSays}
use Rattle.rv_server.specs.declared.locked.asking.FrameAnswer.{FrameAnswer}
use Rattle.rv_server.specs.declared.locked.asking.FrameAnswer.TheVariants.{BadText, NoMemory, Said}

-- what is told of a stamp: its answer, unless memory was refused for the text
abbrev pub TellsStamp : Stamped → FrameAnswer → Type 0
TellsStamp stamp BadText = ⊥
TellsStamp stamp NoMemory = Unit {0}
TellsStamp stamp (Said answer) = answer ≡ stamp.said

-- the desk handled this message for the seat, and this is its stamp, with what is told of it
pub record IsAsked {S : Type 0} (stamped : S → Stamped) (message : Message) (share share' : ℕ)
    (result : S × FrameAnswer) : Type 0 where
  pub asked : (stamped result.0).asked ≡ message
  pub adds : share' ≡ share + added_by (stamped result.0)
  pub within : share' ≤ (stamped result.0).length
  pub grows : (stamped result.0).before ≤ (stamped result.0).length
  pub told : TellsStamp (stamped result.0) result.1
  pub fits : FitsAnswer (stamped result.0).said

-- the same as `Covers`, stamp by stamp
abbrev pub Cover : ℕ → List Numbered → Type 0
Cover own [] = Unit {0}
Cover own (stamp ∷ stamps) = (own + added_by stamp.1 ≤ stamp.1.length) × Cover (own + added_by stamp.1) stamps

-- these stamps were got for the frame of this number and body, after those that were there, and they added
-- to the seat's share what they say
pub record GetsStamps (number : ℕ) (body : List ℕ) (share : ℕ) (old : List Numbered) (share' : ℕ)
    (new got : List Numbered) : Type 0 where
  pub behind : new ≡ old ++ got
  pub own : AreFor number body got
  pub adds : share' ≡ share + added_entries got
  pub cover : Cover share got

-- what is reported of the frame, by its body and the stamps that were got for it
abbrev pub TellsFrame : List ℕ → List Numbered → FrameAnswer → Type 0
TellsFrame body got BadText = IsNoMessage body
TellsFrame body got NoMemory = Unit {0}
TellsFrame body got (Said answer) = LastSays got answer × FitsAnswer answer

-- such stamps were got, and this is reported by them
pub record GetsTold (number : ℕ) (body : List ℕ) (share : ℕ) (old : List Numbered) (share' : ℕ)
    (new : List Numbered) (told : FrameAnswer) : Type 0 where
  pub got : List Numbered
  pub gets : GetsStamps number body share old share' new got
  pub tells : TellsFrame body got told
