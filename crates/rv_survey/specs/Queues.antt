-- What waits in each queue.
use Rattle.std.specs.Prelude.{◌≡◌, ◌<◌, ℕ, List, Some, length, slice_get}
use Rattle.rv_account.specs.state.State.{State, line}
use Rattle.rv_status.specs.declared.status.QueueRow.{QueueRow}
use Rattle.rv_text.specs.declared.call.Side.TheVariants.{Gives, Takes}

-- a queue's items and consumers
abbrev pub row_of_queue : State → ℕ → QueueRow
row_of_queue s queue =
    record { queue = queue; items = length (line s (Gives queue)); consumers = length (line s (Takes queue)) }

-- the rows are those of the queues below a number, in their order
pub record AreQueues (most : ℕ) (s : State) (rows : List QueueRow) : Type 0 where
  pub count : length rows ≡ most
  pub each : (queue : ℕ) → queue < most → slice_get rows queue ≡ Some (row_of_queue s queue)
