-- A journal whose account goes on from the state that a machine holds.
use Rattle.std.specs.Prelude.{◌≡◌, ◌++◌, ℕ, List, Option, None, Some}
use Rattle.rv_account.specs.state.State.{State}
use Rattle.rv_book.specs.lines.Lines.{lines}
use Rattle.rv_checkpoint.specs.Reading.{SaysState}
use Rattle.rv_machine.specs.Machines.{state_in}
use Rattle.rv_machine.specs.declared.machine.Machine.{Machine}
use Rattle.rv_verify.specs.Standing.{HoldsAccountOf}
use Rattle.rv_store.specs.Format.{IsJournalOf}

-- The journal begins with the lines of an account whose state the machine holds.
pub record GoesOnFrom (machine : Machine) (text : List ℕ) : Type 0 where
  pub account : List ℕ
  pub is : IsJournalOf text account
  pub front : List (List ℕ)
  pub later : List (List ℕ)
  pub parts : lines account ≡ front ++ later
  pub holds : HoldsAccountOf front machine

-- so does it where the machine is of this epoch, if there is one
abbrev pub StandsFrom : Option Machine → ℕ → List ℕ → Type 0
StandsFrom None epoch text = Unit {0}
StandsFrom (Some machine) epoch text = (state_in machine).epoch ≡ epoch → GoesOnFrom machine text

-- Bytes say the state of a machine that holds the account of a journal's first lines: a machine of what they
-- say stands on that journal.
abbrev pub CheckpointsStand : Type 0
CheckpointsStand = (one other : Machine) (s : State) (epoch : ℕ) (bytes text account : List ℕ)
    (front later : List (List ℕ)) → IsJournalOf text account → lines account ≡ front ++ later
    → HoldsAccountOf front one → SaysState (lines bytes) (state_in one) → SaysState (lines bytes) s
    → state_in other ≡ s → StandsFrom (Some other) epoch text
