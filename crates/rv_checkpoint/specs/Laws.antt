-- What holds of the lines of checkpoints as such.
use Rattle.std.specs.Prelude.{◌≡◌, ◌∷◌, ℕ, List}
use Rattle.std.specs.List.{AllZip}
use Rattle.rv_account.specs.state.State.{State}
use Rattle.rv_account.specs.state.resume.Checking.{ClientsRise, state_by}
use Rattle.rv_account.specs.state.resume.Resuming.{CanResume}
use Rattle.rv_book.specs.lines.Lines.{lines, printed_lines}
use Rattle.rv_checkpoint.specs.Reading.{SaysState, all_said}
use Rattle.rv_checkpoint.specs.Written.{IsLineFor, head_text_of}
use Rattle.rv_checkpoint.specs.declared.head.StateHead.{StateHead}
use Rattle.rv_session.specs.declared.client.ClientState.{ClientState}
use Rattle.rv_session.specs.declared.open.OpenPlace.{OpenPlace}

-- lines say one state at most
abbrev pub OneState : Type 0
OneState = (lines : List (List ℕ)) (s t : State) → SaysState lines s → SaysState lines t → s ≡ t

-- what is written for a state with these parts, from which a machine can resume, is read as that state: the
-- first line, and one for each place, for each client and for the end
abbrev pub WrittenState : Type 0
WrittenState = (head : StateHead) (opens : List OpenPlace) (clients : List (ℕ × ClientState))
    (texts : List (List ℕ)) (s : State) → s ≡ state_by head.epoch head.moment head.length opens clients
    → ClientsRise clients → CanResume s → AllZip (IsLineFor head.epoch) (all_said opens clients) texts
    → SaysState (lines (printed_lines (head_text_of head ∷ texts))) s
