-- The sockets under their numbers.
use Rattle.std.specs.Prelude.{ℕ, ◌≡◌, ◌<◌, ◌-◌, ◌^◌, ◌⊎◌, ◌||◌, Bool, List, [], None, Option, Some, get_or}
use Rattle.std.specs.Prelude.{length}
use Rattle.std.specs.Prelude.{slice_set, true}
use Rattle.std.specs.List.{sum_by}
use Rattle.rv_traffic.specs.declared.links.link.ReadOutcome.{ReadOutcome}
use Rattle.rv_traffic.specs.declared.links.link.ReadOutcome.TheVariants as input
use Rattle.rv_traffic.specs.declared.links.link.Socket.{Socket}
use Rattle.rv_traffic.specs.declared.links.link.WriteOutcome.{WriteOutcome}
use Rattle.rv_traffic.specs.declared.links.link.WriteOutcome.TheVariants as output
use Rattle.rv_traffic.specs.links.Reading.{ReadsOnce, fresh_link}
use Rattle.rv_traffic.specs.links.Writing.{WritesOnce}

-- the socket under a number, if there is one
abbrev pub link_at : {S : Type 0} → List (Option (Socket S)) → ℕ → Option (Socket S)
link_at table number = get_or table number None

-- under all other numbers nothing changed
abbrev pub ChangesOne : {S : Type 0} → List (Option (Socket S)) → ℕ → List (Option (Socket S)) → Type 0
ChangesOne old number new = new ≡ slice_set old number (link_at new number)

-- the bytes that were read from a socket and not taken
abbrev pub pending_of : {S : Type 0} → Option (Socket S) → List ℕ
pending_of None = []
pending_of (Some link) = link.pending.items

-- ---- one number

-- one read of the socket, if there is one
abbrev pub ReadsSlot : {S : Type 0} → (S → Option (List ℕ)) → ℕ → Option (Socket S) → ReadOutcome → List ℕ
    → Option (Socket S) → Type 0
ReadsSlot remaining now None came bytes new = (came ≡ input.Nothing) × (bytes ≡ []) × (new ≡ None)
ReadsSlot remaining now (Some link) came bytes new =
    (after : _) × ReadsOnce remaining now link came bytes after × (new ≡ Some after)

-- one write to the socket, if there is one
abbrev pub WritesSlot : {S : Type 0} → (S → Option (List ℕ)) → ℕ → Option (Socket S) → List ℕ
    → WriteOutcome → Option (Socket S) → Type 0
WritesSlot contents now None ready what new = (what ≡ output.Nothing) × (new ≡ None)
WritesSlot contents now (Some link) ready what new =
    (after : _) × WritesOnce contents now link ready what after × (new ≡ Some after)

-- these are the socket's pending bytes now, and nothing else of it changed
pub record HasPending {S : Type 0} (old : Socket S) (bytes : List ℕ) (new : Socket S) : Type 0 where
  pub stream : new.stream ≡ old.stream
  pub pending : new.pending.items ≡ bytes
  pub readable : new.is_readable ≡ old.is_readable
  pub writable : new.is_writable ≡ old.is_writable
  pub heard : new.heard ≡ old.heard
  pub moved : new.moved ≡ old.moved
  pub sent : new.sent ≡ old.sent

abbrev pub PendsSlot : {S : Type 0} → Option (Socket S) → List ℕ → Option (Socket S) → Type 0
PendsSlot None bytes new = new ≡ None
PendsSlot (Some link) bytes new = (after : _) × HasPending link bytes after × (new ≡ Some after)

-- a socket that a poll reported: it may be read, or written to, if it could be before or the poll says so,
-- and all else is as it was
abbrev pub heeded : {S : Type 0} → Socket S → Bool → Bool → Socket S
heeded link is_readable is_writable = record link {
  is_readable = link.is_readable || is_readable;
  is_writable = link.is_writable || is_writable;
}

-- a socket with no bytes to send at a moment
abbrev pub rested : {S : Type 0} → Socket S → ℕ → Socket S
rested link now = record link { moved = now }

-- a socket that was accepted at a moment, with nothing pending, and that may be read and written to
abbrev pub IsFreshSlot : {S : Type 0} → S → ℕ → Option (Socket S) → Type 0
IsFreshSlot stream now None = ⊥
IsFreshSlot stream now (Some link) = link ≡ fresh_link stream now link.pending.spare

-- there is something to offer, or the socket may be read
abbrev pub HasInput : {S : Type 0} → Option (Socket S) → Type 0
HasInput None = ⊥
HasInput (Some link) = (link.is_readable ≡ true) ⊎ (0 < length link.pending.items)

-- the socket may be written to
abbrev pub IsWritable : {S : Type 0} → Option (Socket S) → Type 0
IsWritable None = ⊥
IsWritable (Some link) = link.is_writable ≡ true

-- ---- counts

abbrev pub one_at : {S : Type 0} → Option (Socket S) → ℕ
one_at None = 0
one_at (Some link) = 1

abbrev pub pending_at : {S : Type 0} → Option (Socket S) → ℕ
pending_at slot = length (pending_of slot)

-- how many bytes more are pending than a buffer may have
abbrev pub over_at : {S : Type 0} → Option (Socket S) → ℕ
over_at slot = pending_at slot - (2 ^ 63 - 1)

-- there are so many sockets, and so many bytes are pending over all of them
pub record AreTallied {S : Type 0} (table : List (Option (Socket S))) (count pending : ℕ) : Type 0 where
  pub counts : count ≡ sum_by one_at table
  pub pends : pending ≡ sum_by pending_at table
  pub few : sum_by over_at table ≡ 0
