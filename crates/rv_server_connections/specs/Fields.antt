-- What the fields hold, for the proofs: the public words are those of `Connections`.
use Rattle.std.specs.Prelude.{ℕ, ◌≡◌, ◌≢◌, ◌≤◌, ◌+◌, Bool, None, Option, Some, false, nat_eq, vec_capacity}
use Rattle.std.specs.Prelude.{◌<◌, ◌⊎◌, true, unwrap_or, List, [], length, AllPairs, Contains, IsSome}
use Rattle.rv_server_connections.specs.Table.{get}
use Rattle.rv_server_connections.specs.connection.Traffic.{Traffic, first_rests_on, held_count}
use Rattle.rv_server_connections.specs.declared.subscribers.pairs.Pairs.{Pairs}
use Rattle.rv_server_connections.specs.subscribers.Pairs.{ChangesPairs, SamePairs, pair_count, stands_under}
use Rattle.rv_server_connections.specs.declared.table.WireSlot.{WireSlot}
use Rattle.rv_server_connections.specs.declared.slots.Slots.{Slots}
use Rattle.rv_server_connections.specs.Connections.{IsReleased, ReleasesOpen, WiresState, total_below}
use Rattle.rv_server_connections.specs.connection.Steps.{AnswersBy, owing}
use Rattle.rv_server_connections.specs.declared.connection.AnswerTo.{AnswerTo}
use Rattle.rv_server_connections.specs.declared.slots.Given.{Given}

abbrev pub wire_of : Option WireSlot → Option Traffic
wire_of None = None
wire_of (Some slot) = Some slot.wire

abbrev pub wires_at : (ℕ → Option WireSlot) → ℕ → Option Traffic
wires_at slots connection = wire_of (slots connection)

abbrev pub slots_state : Slots → WiresState
slots_state s = record {
  wires = wires_at (get s.slots);
  written = s.written;
  released = s.released.items;
}

-- ---- one slot

-- a connection that holds something back has a mark, at most what its first held-back byte rests on, and any
-- other has none
pub record IsSoundSlot (slot : WireSlot) : Type 0 where
  pub marked : (entries : ℕ) → first_rests_on slot.wire.behind ≡ Some entries
      → unwrap_or slot.mark (entries + 1) ≤ entries
  pub unmarked : first_rests_on slot.wire.behind ≡ None → slot.mark ≡ None
  pub short : held_count slot.wire ≤ 131071

-- ---- the index

-- whether the mark is this number
abbrev pub has_mark : Option ℕ → ℕ → Bool
has_mark None entries = false
has_mark (Some mark) entries = nat_eq mark entries

-- whether the connection in a slot stands under this number
abbrev pub is_slot_marked : Option WireSlot → ℕ → Bool
is_slot_marked None entries = false
is_slot_marked (Some slot) entries = has_mark slot.mark entries

-- the connection stands under its mark alone
abbrev pub StandsByMark : Pairs → ℕ → Option ℕ → Type 0
StandsByMark index connection mark = (entries : ℕ)
    → stands_under index entries connection ≡ has_mark mark entries

-- it stands under this mark alone now, and all others stand as they did
pub record Remarks (old : Pairs) (connection : ℕ) (mark : Option ℕ) (new : Pairs) : Type 0 where
  pub own : StandsByMark new connection mark
  pub others : (entries other : ℕ) → other ≢ connection
      → stands_under new entries other ≡ stands_under old entries other

-- it is no longer under this mark
pub record Drops (old : Pairs) (connection : ℕ) (mark : Option ℕ) (new : Pairs) : Type 0 where
  pub own : (entries : ℕ) → has_mark mark entries ≡ true → stands_under new entries connection ≡ false
  pub others : (entries other : ℕ) → (other ≢ connection) ⊎ (has_mark mark entries ≡ false)
      → stands_under new entries other ≡ stands_under old entries other

abbrev pub mark_count : Option ℕ → ℕ
mark_count None = 0
mark_count (Some mark) = 1

-- ---- all slots

-- there is room for all numbers of open ones, and so many bytes are held for them
pub record AreHeld (slots : ℕ → Option WireSlot) (room total : ℕ) : Type 0 where
  pub all_below : (connection : ℕ) → room ≤ connection → slots connection ≡ None
  pub total_is : total ≡ total_below held_count (wires_at slots) room

abbrev pub AreSound : (ℕ → Option WireSlot) → Type 0
AreSound slots = (connection : ℕ) (slot : WireSlot) → slots connection ≡ Some slot → IsSoundSlot slot

abbrev pub IsIndexOf : Pairs → (ℕ → Option WireSlot) → Type 0
IsIndexOf index slots = (entries connection : ℕ)
    → stands_under index entries connection ≡ is_slot_marked (slots connection) entries

-- the bytes that are held are counted
pub record IsHeldIn (s : Slots) : Type 0 where
  pub each : AreSound (get s.slots)
  pub held : AreHeld (get s.slots) s.slots.room s.held

-- and the index leads to each connection that holds something back, and the list has room for all that it
-- leads to
pub record HasIndex (s : Slots) : Type 0 where
  pub counted : IsHeldIn s
  pub indexed : IsIndexOf s.index (get s.slots)
  pub room : pair_count s.index ≤ vec_capacity s.released
  pub looks : pair_count s.index ≤ vec_capacity s.reached

-- what a connection holds back rests on more entries than are written
abbrev pub IsHeldBack : ℕ → WireSlot → Type 0
IsHeldBack written slot = (entries : ℕ) → first_rests_on slot.wire.behind ≡ Some entries → written < entries

abbrev pub AreHeldBack : ℕ → (ℕ → Option WireSlot) → Type 0
AreHeldBack written slots = (connection : ℕ) (slot : WireSlot) → slots connection ≡ Some slot
    → IsHeldBack written slot

-- and what may not leave rests on what isn't written
pub record IsSoundSlots (s : Slots) : Type 0 where
  pub indexed : HasIndex s
  pub held_back : AreHeldBack s.written (get s.slots)

-- ---- what calls do

-- all but the slots and the count of bytes
pub record KeepsRest (old new : Slots) : Type 0 where
  pub written : new.written ≡ old.written
  pub released : new.released ≡ old.released
  pub reached : new.reached ≡ old.reached

-- the first byte of a connection that might not leave may leave now
abbrev pub IsReleasedAt : (ℕ → Option WireSlot) → ℕ → ℕ → Type 0
IsReleasedAt slots written connection =
    IsReleased (record { wires = wires_at slots; written = written; released = [] }) written connection

-- a connection was given an answer, and has this mark: so many bytes more are held, and so many fewer unread
pub record Gives (old : WireSlot) (to : AnswerTo) (written entries : ℕ) (body : List ℕ) (mark : Option ℕ)
    (given : Given) (new : WireSlot) : Type 0
  where
    pub answers : AnswersBy written (owing to old.wire) entries body new.wire
    pub mark_is : new.mark ≡ mark
    pub more : held_count new.wire ≡ held_count old.wire + given.more
    pub short : held_count new.wire ≤ 131071
    pub read : length new.wire.unread + given.read ≡ length old.wire.unread

-- a connection stands under a number besides all that stood, and the lists have room for each
pub record StandsToo (old : Pairs) (entries connection : ℕ) (new : Pairs) (released reached : ℕ) : Type 0
  where
    pub adds : ChangesPairs old new entries connection true
    pub count : pair_count new ≤ pair_count old + 1
    pub room : pair_count new ≤ released
    pub looks : pair_count new ≤ reached

-- nothing stands elsewhere than before
pub record StandsStill (old new : Pairs) : Type 0 where
  pub same : SamePairs old new
  pub count : pair_count new ≡ pair_count old

-- what may leave of one connection becomes ready
pub record ReleasesOne (written : ℕ) (old : Slots) (connection : ℕ) (new : Slots) : Type 0 where
  pub own : ReleasesOpen written (wires_at (get old.slots) connection) (wires_at (get new.slots) connection)
  pub others : (other : ℕ) → other ≢ connection → get new.slots other ≡ get old.slots other

-- the last of those that the index led to were looked at: what may leave of them, and of those to which it
-- didn't lead, is ready; the others are as they were; and those with bytes that were let go are listed
pub record IsReaching (written : ℕ) (start : ℕ → Option WireSlot) (s : Slots) : Type 0 where
  pub indexed : HasIndex s
  pub apart : AllPairs (λ one other. one ≢ other) s.reached.items
  pub opens : (connection : ℕ) → Contains s.reached.items connection → IsSome (start connection)
  pub left : (connection : ℕ) → Contains s.reached.items connection
      → get s.slots connection ≡ start connection
  pub done : (connection : ℕ) → (Contains s.reached.items connection → ⊥)
      → ReleasesOpen written (wires_at start connection) (wires_at (get s.slots) connection)
  pub once : AllPairs (λ one other. one ≢ other) s.released.items
  pub listed : (connection : ℕ) → Contains s.released.items connection
      → IsReleasedAt start written connection × (Contains s.reached.items connection → ⊥)
  pub all_listed : (connection : ℕ) → IsReleasedAt start written connection
      → (Contains s.reached.items connection → ⊥) → Contains s.released.items connection
  pub fits : length s.released.items + length s.reached.items ≤ vec_capacity s.released
