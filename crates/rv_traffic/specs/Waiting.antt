-- Which connections wait for a share of a server's turns.
use Rattle.std.specs.Prelude.{ℕ, ◌≡◌, ◌<◌, List, [], ◌∷◌, length}
use Rattle.rv_engine.specs.Handing.{AddsLooks}
use Rattle.rv_traffic.specs.links.Table.{link_at, pending_of}
use Rattle.rv_traffic.specs.Calls.{MayBeOffered}
use Rattle.rv_traffic.specs.Views.{TrafficState, WaitLists}

-- one more waits for a share of the next round, if its number is below the room
pub record WaitsToo (old : WaitLists) (number : ℕ) (new : WaitLists) : Type 0 where
  pub next : AddsLooks old.room old.next (number ∷ []) new.next
  pub due : new.due ≡ old.due
  pub room : new.room ≡ old.room

abbrev pub due_or_next : List ℕ → WaitLists → WaitLists
due_or_next [] w = record w { due = w.next; next = [] }
due_or_next (number ∷ rest) w = w

-- when no share of a round is due any more, those of the next round are
abbrev pub shares_begun : WaitLists → WaitLists
shares_begun w = due_or_next w.due w

-- a connection has pending bytes, and may be offered more
abbrev pub HasToWait : {S : Type 0} → TrafficState S → ℕ → Type 0
HasToWait s number =
    MayBeOffered s.engine.hub number × (0 < length (pending_of (link_at s.table number)))

-- a connection waits, and nothing else changes
pub record IsToWait {S : Type 0} (old : TrafficState S) (number : ℕ) (new : TrafficState S) : Type 0 where
  pub waits : WaitsToo old.waits number new.waits
  pub engine : new.engine ≡ old.engine
  pub table : new.table ≡ old.table
