-- The name and the text of a checkpoint.
use Rattle.std.specs.Fmt.{decimal}
use Rattle.std.specs.Prelude.{◌++◌, ℕ, List, Option, codes}
use Rattle.rv_account.specs.state.State.{State}
use Rattle.rv_book.specs.lines.Lines.{lines, printed_lines}
use Rattle.rv_checkpoint.specs.Reading.{SaysState}
use Rattle.rv_frame.specs.Sink.{SinkTakes}
use Rattle.rv_frame.specs.declared.sink.Sink.{Sink}
use Rattle.rv_store.specs.declared.keeping.checkpoint.CheckpointName.{CheckpointName}

-- the name of its file
abbrev pub checkpoint_file : CheckpointName → List ℕ
checkpoint_file name =
    codes "epoch-" ++ (decimal name.epoch ++ (codes "-" ++ (decimal name.entries ++ codes ".state")))

-- a sink took lines that say the state, each with its LF
pub record TakesState {W : Type 0} (contents : W → Option (List ℕ)) (old new : Sink W) (s : State) : Type 0
  where
    pub texts : List (List ℕ)
    pub took : SinkTakes contents old new (printed_lines texts)
    pub says : SaysState (lines (printed_lines texts)) s
