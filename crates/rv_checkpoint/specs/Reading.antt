-- Which lines say a state.
use Rattle.std.specs.Prelude.{◌≡◌, ◌≢◌, ◌∷◌, ◌++◌, [], ℕ, Bool, true, false, List, Option, Some, None}
use Rattle.std.specs.Prelude.{length, map}
use Rattle.std.specs.List.{AllZip}
use Rattle.rv_account.specs.state.State.{State}
use Rattle.rv_account.specs.state.resume.Checking.{ClientsRise, state_by}
use Rattle.rv_account.specs.state.resume.Resuming.{CanResume}
use Rattle.rv_checkpoint.specs.Saying.{SaysHead, SaysOneLine}
use Rattle.rv_checkpoint.specs.declared.head.StateHead.{StateHead}
use Rattle.rv_checkpoint.specs.declared.line.StateLine.{StateLine}
use Rattle.rv_checkpoint.specs.declared.line.StateLine.TheVariants.{Open, Client, End}
use Rattle.rv_checkpoint.specs.declared.reader.CheckpointReader.{CheckpointReader}
use Rattle.rv_session.specs.declared.client.ClientState.{ClientState}
use Rattle.rv_session.specs.declared.open.OpenPlace.{OpenPlace}

-- ---- all lines

-- what is said of open places and clients: first each place, then each client
abbrev pub parts_said : List OpenPlace → List (ℕ × ClientState) → List StateLine
parts_said opens clients = map (λ there. Open there) opens ++ map (λ known. Client known.0 known.1) clients

-- and how many they were, which is the last
abbrev pub all_said : List OpenPlace → List (ℕ × ClientState) → List StateLine
all_said opens clients = parts_said opens clients ++ End (length opens) (length clients) ∷ []

-- the lines say the state, from which a machine can resume: the first its epoch, its last moment and its
-- number of entries, the others its open places and its clients, in the order of their numbers, and the last
-- one how many these are
pub record SaysState (lines : List (List ℕ)) (s : State) : Type 0 where
  pub head : StateHead
  pub first : List ℕ
  pub rest : List (List ℕ)
  pub parts : lines ≡ first ∷ rest
  pub says_head : SaysHead first head
  pub opens : List OpenPlace
  pub clients : List (ℕ × ClientState)
  pub says : AllZip (SaysOneLine head.epoch) rest (all_said opens clients)
  pub rise : ClientsRise clients
  pub state : s ≡ state_by head.epoch head.moment head.length opens clients
  pub resumes : CanResume s

-- no state's lines begin with these
abbrev pub BeginsNoState : List (List ℕ) → Type 0
BeginsNoState front = (more : List (List ℕ)) (s : State) → ¬ SaysState (front ++ more) s

-- ---- what a reader has read

abbrev pub end_said : Bool → ℕ → ℕ → List StateLine
end_said false opens clients = []
end_said true opens clients = End opens clients ∷ []

-- what was said after the first line
abbrev pub said_to : CheckpointReader → List StateLine
said_to reader = parts_said reader.opens.items reader.clients.items
    ++ end_said reader.ended (length reader.opens.items) (length reader.clients.items)

-- of these lines the reader has what they say: of none, nothing
abbrev pub HasReadAfter : Option StateHead → List (List ℕ) → List StateLine → Type 0
HasReadAfter None lines said = (lines ≡ []) × (said ≡ [])
HasReadAfter (Some head) lines said =
    (first : List ℕ) × (rest : List (List ℕ)) × (lines ≡ first ∷ rest) × SaysHead first head
    × AllZip (SaysOneLine head.epoch) rest said

abbrev pub HasBeenTold : List (List ℕ) → CheckpointReader → Type 0
HasBeenTold lines reader = HasReadAfter reader.head lines (said_to reader)

-- after what was said this isn't next: no state is said so
abbrev pub IsNoNextOf : List StateLine → StateLine → Type 0
IsNoNextOf before said = (opens : List OpenPlace) (clients : List (ℕ × ClientState)) (more : List StateLine)
    → all_said opens clients ≢ before ++ said ∷ more

-- it was told this after what was said before
pub record AddsSaid (old new : CheckpointReader) (line : StateLine) : Type 0 where
  pub head : new.head ≡ old.head
  pub said : said_to new ≡ said_to old ++ line ∷ []

-- it has read this line after the others
abbrev pub GoesOnBy : CheckpointReader → List ℕ → CheckpointReader → Type 0
GoesOnBy old line new = (read : List (List ℕ)) → HasBeenTold read old → HasBeenTold (read ++ line ∷ []) new

-- no state's lines go on by this one
abbrev pub StopsAtNext : CheckpointReader → List ℕ → Type 0
StopsAtNext old line = (read : List (List ℕ)) → HasBeenTold read old → BeginsNoState (read ++ line ∷ [])

-- ---- what it says at the end

abbrev pub GivesState : CheckpointReader → State → Type 0
GivesState reader s = (read : List (List ℕ)) → HasBeenTold read reader → SaysState read s

abbrev pub GivesNoState : CheckpointReader → Type 0
GivesNoState reader = (read : List (List ℕ)) (s : State) → HasBeenTold read reader → ¬ SaysState read s
