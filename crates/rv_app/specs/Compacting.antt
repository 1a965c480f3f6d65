-- The machine of which `rv compact` makes a checkpoint, and what is one.
use Rattle.std.specs.Prelude.{◌≡◌, ℕ, List}
use Rattle.rv_account.specs.state.State.{State}
use Rattle.rv_book.specs.lines.Lines.{lines}
use Rattle.rv_checkpoint.specs.Reading.{SaysState}
use Rattle.rv_machine.specs.declared.machine.Machine.{Machine}
use Rattle.rv_store.specs.declared.keeping.checkpoint.CheckpointName.{CheckpointName}
use Rattle.rv_verify.specs.Ends.{EndsWithPiece}
use Rattle.rv_verify.specs.Standing.{HoldsAccountOf}

-- The machine holds the state of the account of all whole lines of the bytes.
pub record IsMachineOf (bytes : List ℕ) (machine : Machine) : Type 0 where
  pub whole : List ℕ
  pub piece : List ℕ
  pub ends : EndsWithPiece bytes whole piece
  pub holds : HoldsAccountOf (lines whole) machine

-- A checkpoint of this name, whose text this is, says this state, and the name is its own.
pub record IsCheckpointAt (name : CheckpointName) (text : List ℕ) (s : State) : Type 0 where
  pub says : SaysState (lines text) s
  pub epoch : s.epoch ≡ name.epoch
  pub entries : s.length ≡ name.entries
