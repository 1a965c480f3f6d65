-- Which lines of a state were given.
use Rattle.std.specs.Prelude.{◌≡◌, ◌≤◌, ◌∷◌, [], ℕ, zero, suc, List, Option, Some, None, length, slice_get}
use Rattle.std.specs.Prelude.{String, string_bytes, take}
use Rattle.std.specs.List.{All, AllZip}
use Rattle.std.specs.declared.alloc.Global.{Global}
use Rattle.rv_account.specs.state.State.{State}
use Rattle.rv_account.specs.state.resume.Checking.{ClientsRise, state_by}
use Rattle.rv_account.specs.state.resume.Resuming.{CanResume}
use Rattle.rv_checkpoint.specs.Reading.{all_said}
use Rattle.rv_checkpoint.specs.Written.{IsLineFor, StandsThere, head_text_of}
use Rattle.rv_checkpoint.specs.declared.line.StateLine.{StateLine}
use Rattle.rv_checkpoint.specs.declared.writer.CheckpointWriter.{CheckpointWriter}

-- what is said after the first line
abbrev pub said_after_head : CheckpointWriter → List StateLine
said_after_head w = all_said w.opens.items w.clients.items

-- it gives the lines of this state
pub record WritesState (w : CheckpointWriter) (s : State) : Type 0 where
  pub state : s ≡ state_by w.head.epoch w.head.moment w.head.length w.opens.items w.clients.items
  pub rise : ClientsRise w.clients.items
  pub resumes : CanResume s

-- at each of its open places some request waits, or an item lies; and there are so many lines at most
pub record CanGive (w : CheckpointWriter) : Type 0 where
  pub stand : All StandsThere w.opens.items
  pub few : length (said_after_head w) ≤ 200001
  pub within : w.given ≤ 200002

-- of so many lines these were given: none; or the first, and then those of the first things said
abbrev pub HasGivenSo : CheckpointWriter → ℕ → List (List ℕ) → Type 0
HasGivenSo w zero before = before ≡ []
HasGivenSo w (suc n) before = (texts : List (List ℕ)) × (before ≡ head_text_of w.head ∷ texts)
    × AllZip (IsLineFor w.head.epoch) (take n (said_after_head w)) texts

abbrev pub HasGiven : List (List ℕ) → CheckpointWriter → Type 0
HasGiven before w = HasGivenSo w w.given before

-- the text is the line of what is said at this place of all; none where nothing more is said
abbrev pub IsTextAt : CheckpointWriter → ℕ → Option (String Global) → Type 0
IsTextAt w n None = slice_get (said_after_head w) n ≡ None
IsTextAt w n (Some text) = (said : StateLine) × (slice_get (said_after_head w) n ≡ Some said)
    × IsLineFor w.head.epoch said (string_bytes text)

-- it is the next line
abbrev pub GivesSo : CheckpointWriter → ℕ → Option (String Global) → Type 0
GivesSo w zero None = ⊥
GivesSo w zero (Some text) = string_bytes text ≡ head_text_of w.head
GivesSo w (suc n) text = IsTextAt w n text

abbrev pub GivesNext : CheckpointWriter → Option (String Global) → Type 0
GivesNext w text = GivesSo w w.given text
