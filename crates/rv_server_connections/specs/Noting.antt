-- The fields of the list of connections that changed, for the proofs.
use Rattle.std.specs.Prelude.{ℕ, ◌≡◌, ◌≤◌, ◌<◌, ◌^◌, None, length, vec_capacity}
use Rattle.rv_server_connections.specs.Table.{get}
use Rattle.rv_server_connections.specs.Flags.{AreListed}
use Rattle.rv_server_connections.specs.declared.changes.ChangeList.{ChangeList}
use Rattle.rv_server_connections.specs.declared.noted.Noted.{Noted}
use Rattle.rv_server_connections.specs.Connections.{Tally, count_at, total_below, unread_count}
use Rattle.rv_server_connections.specs.Fields.{IsSoundSlots, wires_at}

-- a number is listed exactly if its flag is set, once, and there is room for all that have a flag
abbrev pub IsChanges : ChangeList → Type 0
IsChanges c = AreListed c.flags.items c.numbers.items (vec_capacity c.numbers)

abbrev pub tally_of : Noted → Tally
tally_of n = record {
  changed = n.changes.numbers.items;
  unread = total_below unread_count (wires_at (get n.slots.slots)) n.slots.slots.room;
}

-- each connection that is open may be listed
pub record IsNoted (n : Noted) : Type 0 where
  pub sound : IsSoundSlots n.slots
  pub changes : IsChanges n.changes
  pub room : (connection : ℕ) → length n.changes.flags.items ≤ connection
      → wires_at (get n.slots.slots) connection ≡ None

-- so many bytes are unread over all connections, and on each no more than a count can hold
pub record IsUnreadIn (n : Noted) (unread : ℕ) : Type 0 where
  pub few : (connection : ℕ) → count_at unread_count (wires_at (get n.slots.slots) connection) < 2 ^ 64
  pub total_is : unread ≡ (tally_of n).unread
