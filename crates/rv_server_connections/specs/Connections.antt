-- What contracts see of all connections, and what each call changes of them.
use Rattle.std.specs.Prelude.{ℕ, ◌≡◌, ◌≢◌, ◌+◌, ◌≤◌, ◌↔◌, List, [], ◌∷◌, None, Option, Some, zero, suc}
use Rattle.std.specs.Prelude.{◌⊎◌, AllPairs, Contains, IsSomeAnd, length}
use Rattle.rv_server_connections.specs.connection.Traffic.{AnswerByte, IsBad, IsWholeFrame, Traffic}
use Rattle.rv_server_connections.specs.connection.Traffic.{held_count}
use Rattle.rv_server_connections.specs.connection.Steps.{HoldsBack, Releases, fresh_traffic}

pub record WiresState : Type 0 where
  -- the bytes of the connection that is open under each number, if one is
  pub wires : ℕ → Option Traffic
  -- how many entries are written
  pub written : ℕ
  -- the connections with bytes that the last `release` let go
  pub released : List ℕ

-- no connection is open
abbrev pub none_open : ℕ → WiresState
none_open written = record { wires = λ connection. None; written = written; released = [] }

-- one connection's bytes are these now, or it is closed, and all else is as it was
pub record SetsWire (old : WiresState) (connection : ℕ) (wire : Option Traffic) (new : WiresState) : Type 0
  where
    pub own : new.wires connection ≡ wire
    pub others : (other : ℕ) → other ≢ connection → new.wires other ≡ old.wires other
    pub written : new.written ≡ old.written
    pub released : new.released ≡ old.released

-- a connection is open, and this is so of its bytes
pub record HasWire (s : WiresState) (connection : ℕ) (is_so : Traffic → Type 0) : Type 0 where
  pub wire : Traffic
  pub there : s.wires connection ≡ Some wire
  pub so : is_so wire

-- an open connection's bytes changed so, and nothing else did
pub record ChangesWire (old : WiresState) (connection : ℕ) (changes_so : Traffic → Traffic → Type 0)
    (new : WiresState) : Type 0
  where
    pub wire : Traffic
    pub after : Traffic
    pub there : old.wires connection ≡ Some wire
    pub changes : changes_so wire after
    pub sets : SetsWire old connection (Some after) new

-- a connection was opened, under a number that was free
pub record OpensWire (old : WiresState) (connection : ℕ) (new : WiresState) : Type 0 where
  pub free : old.wires connection ≡ None
  pub sets : SetsWire old connection (Some fresh_traffic) new

-- a connection takes no more bytes of its input: the unread bytes are a whole frame or a bad length, or it is
-- closed
abbrev pub WireTakesNoMore : WiresState → ℕ → Type 0
WireTakesNoMore s connection = (wire : Traffic) → s.wires connection ≡ Some wire
    → IsWholeFrame wire.unread ⊎ IsBad wire.unread

-- ---- so many entries are written

-- what may leave of a connection, if it is open, becomes ready
abbrev pub ReleasesOpen : ℕ → Option Traffic → Option Traffic → Type 0
ReleasesOpen written None new = new ≡ None
ReleasesOpen written (Some wire) new = IsSomeAnd new (λ after. Releases written wire after)

-- the first byte of a connection that might not leave may leave now
pub record IsReleased (s : WiresState) (written connection : ℕ) : Type 0 where
  pub wire : Traffic
  pub there : s.wires connection ≡ Some wire
  pub first : AnswerByte
  pub more : List AnswerByte
  pub behind : wire.behind ≡ first ∷ more
  pub free : first.rests_on ≤ written

-- so many entries are written: each connection is released, and those with bytes that may leave now and might
-- not before are listed, once each
pub record ReleasesAll (old : WiresState) (written : ℕ) (new : WiresState) : Type 0 where
  pub each : (connection : ℕ) → ReleasesOpen written (old.wires connection) (new.wires connection)
  pub written_is : new.written ≡ written
  pub listed : (connection : ℕ) → Contains new.released connection ↔ IsReleased old written connection
  pub once : AllPairs (λ one other. one ≢ other) new.released

-- ---- counts of bytes

-- a count of a connection's bytes, if it is open
abbrev pub count_at : (Traffic → ℕ) → Option Traffic → ℕ
count_at count None = 0
count_at count (Some wire) = count wire

-- the sum of a count over the connections with numbers below this one
abbrev pub total_below : (Traffic → ℕ) → (ℕ → Option Traffic) → ℕ → ℕ
total_below count wires zero = 0
total_below count wires (suc n) = total_below count wires n + count_at count (wires n)

-- all that are open are below a number, and the sum of a count over them is this
pub record IsTotalOf (count : Traffic → ℕ) (wires : ℕ → Option Traffic) (total : ℕ) : Type 0 where
  pub bound : ℕ
  pub all_below : (connection : ℕ) → bound ≤ connection → wires connection ≡ None
  pub total_is : total ≡ total_below count wires bound

-- so many bytes of answers are held for all that are open
abbrev pub IsTotalHeld : (ℕ → Option Traffic) → ℕ → Type 0
IsTotalHeld wires total = IsTotalOf held_count wires total

-- how many bytes are unread
abbrev pub unread_count : Traffic → ℕ
unread_count wire = length wire.unread

-- so many bytes are unread over all that are open
abbrev pub IsTotalUnread : (ℕ → Option Traffic) → ℕ → Type 0
IsTotalUnread wires total = IsTotalOf unread_count wires total

-- ---- the list of those that changed

-- one number is listed besides those that were
abbrev pub ListsOne : List ℕ → ℕ → List ℕ → Type 0
ListsOne old number new = (other : ℕ) → Contains new other ↔ (Contains old other ⊎ (other ≡ number))

-- these numbers are listed besides those that were
abbrev pub ListsAll : List ℕ → List ℕ → List ℕ → Type 0
ListsAll old numbers new = (other : ℕ) → Contains new other ↔ (Contains old other ⊎ Contains numbers other)

-- what is kept about all connections besides their bytes
pub record Tally : Type 0 where
  -- those that changed since the list was cleared
  pub changed : List ℕ
  -- the sum of their unread bytes
  pub unread : ℕ

-- one connection changed: it is listed besides those that were, and the sum counts its unread bytes as they
-- are
pub record Notes (old : WiresState) (before : Tally) (connection : ℕ) (new : WiresState) (after : Tally) :
    Type 0
  where
    pub changed : ListsOne before.changed connection after.changed
    pub unread : after.unread + count_at unread_count (old.wires connection)
        ≡ before.unread + count_at unread_count (new.wires connection)

-- those with bytes that may leave now and might not before are listed besides those that were
pub record NotesReleased (old : WiresState) (before : Tally) (written : ℕ) (after : Tally) : Type 0 where
  pub changed : (connection : ℕ) → Contains after.changed connection
      ↔ (Contains before.changed connection ⊎ IsReleased old written connection)
  pub unread : after.unread ≡ before.unread

-- the held-back bytes of each open connection begin with what isn't written
abbrev pub AllHeldBack : WiresState → Type 0
AllHeldBack s = (connection : ℕ) (wire : Traffic) → s.wires connection ≡ Some wire → HoldsBack s.written
    wire.behind
