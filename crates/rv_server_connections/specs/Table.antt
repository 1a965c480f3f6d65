-- What contracts see of a table of connections: what is under each number, and which numbers are free.
use Rattle.std.specs.Prelude.{ℕ, ◌≡◌, ◌≢◌, List, Option, None, Some, slice_index_or, slice_set}
use Rattle.rv_server_connections.specs.declared.table.WireSlot.{WireSlot}

pub record TableState : Type 0 where
  -- what is under each number from 0 on
  pub places : List (Option WireSlot)
  -- the numbers that are free, of which the last is the next to be given
  pub free : List ℕ
  -- all numbers are below this one
  pub room : ℕ

-- what is under a number
abbrev pub get : TableState → ℕ → Option WireSlot
get t number = slice_index_or t.places number None

-- another connection is under a number
abbrev pub with_slot : TableState → ℕ → WireSlot → TableState
with_slot t number slot = record t { places = slice_set t.places number (Some slot) }

-- one slot is this now, and all others are as they were
pub record SetsSlot (old : ℕ → Option WireSlot) (connection : ℕ) (slot : Option WireSlot) (new : ℕ
    → Option WireSlot) :
    Type 0
  where
    pub own : new connection ≡ slot
    pub others : (other : ℕ) → other ≢ connection → new other ≡ old other
