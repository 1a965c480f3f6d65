-- What is read from, written to and reported of one connection, and of all.
use Rattle.std.specs.Prelude.{ℕ, ◌≡◌, ◌<◌, ◌≤◌, ◌⊎◌, Bool, List, [], ◌∷◌, ◌++◌, None, Option, Some}
use Rattle.std.specs.Prelude.{◌+◌, drop, false, length, take, true}
use Rattle.std.specs.List.{sum_by}
use Rattle.std.specs.Io.KnownBytes.{Appends, Consumes, IsAtEnd, Keeps}
use Rattle.rv_account.specs.declared.entry.Entry.{Entry}
use Rattle.rv_server_connections.specs.connection.Traffic.{MayOffer, Traffic}
use Rattle.rv_server_connections.specs.Connections.{HasWire, IsTotalHeld, IsTotalUnread}
use Rattle.rv_hub.specs.dispatcher.View.{DispatcherState, DispatcherTerms}
use Rattle.rv_hub.specs.declared.events.HubEvent.{HubEvent}
use Rattle.rv_hub.specs.declared.events.HubEvent.TheVariants as event
use Rattle.rv_engine.specs.Engines.{EngineState}
use Rattle.rv_engine.specs.Handing.{Gathers, HandsOn, LooksAt}
use Rattle.rv_traffic.specs.declared.links.link.Socket.{Socket}
use Rattle.rv_traffic.specs.links.Reading.{KeepsOutput}
use Rattle.rv_traffic.specs.declared.links.link.WriteOutcome.TheVariants as output
use Rattle.rv_traffic.specs.links.Writing.{KeepsInput, WritesOnce}
use Rattle.rv_traffic.specs.links.Table.{ChangesOne, IsFreshSlot, IsWritable, link_at, pending_at}
use Rattle.rv_traffic.specs.links.Table.{pending_of, rested}
use Rattle.rv_traffic.specs.declared.traffic.TheConstants.{SHARE, SMALL}
use Rattle.rv_traffic.specs.declared.outcomes.Reading.{Reading}
use Rattle.rv_traffic.specs.declared.outcomes.Reading.TheVariants as reading
use Rattle.rv_traffic.specs.declared.outcomes.Writing.{Writing}
use Rattle.rv_traffic.specs.declared.outcomes.Writing.TheVariants as writing
use Rattle.rv_traffic.specs.Views.{IsPieceOf, TrafficState}

-- more of a connection's input may be offered
abbrev pub MayBeOffered : DispatcherState → ℕ → Type 0
MayBeOffered s number = HasWire s.open_wires number MayOffer

-- it is open
abbrev pub IsConnected : DispatcherState → ℕ → Type 0
IsConnected s number = HasWire s.open_wires number (λ wire. Unit {0})

-- its socket may be read
abbrev pub IsReadable : {S : Type 0} → Option (Socket S) → Type 0
IsReadable None = ⊥
IsReadable (Some link) = link.is_readable ≡ true

-- its socket has changed so, and all others are as they were
pub record ChangesLink {S : Type 0} (old : List (Option (Socket S))) (number : ℕ)
    (so : Socket S → Socket S → Type 0) (new : List (Option (Socket S))) : Type 0
  where
    pub link : Socket S
    pub after : Socket S
    pub there : link_at old number ≡ Some link
    pub changes : so link after
    pub is : link_at new number ≡ Some after
    pub others : ChangesOne old number new

-- its readiness, and the moment when bytes last left or there were none to send, are as they were
pub record SameFlags {S : Type 0} (link after : Socket S) : Type 0 where
  pub readable : after.is_readable ≡ link.is_readable
  pub writable : after.is_writable ≡ link.is_writable
  pub moved : after.moved ≡ link.moved
  pub sent : after.sent ≡ link.sent

-- its socket is let go
pub record LetsGo {S : Type 0} (old : List (Option (Socket S))) (number : ℕ)
    (new : List (Option (Socket S))) :
    Type 0
  where
    pub none : link_at new number ≡ None
    pub others : ChangesOne old number new

-- ---- memory

-- so many bytes are held over all connections: bytes of answers, of frames that aren't whole, and pending
-- ones
pub record HoldsInAll {S : Type 0} (s : TrafficState S) (total : ℕ) : Type 0 where
  pub answers : ℕ
  pub unread : ℕ
  pub are_held : IsTotalHeld s.engine.hub.open_wires.wires answers
  pub are_unread : IsTotalUnread s.engine.hub.open_wires.wires unread
  pub all : total ≡ answers + unread + sum_by pending_at s.table

-- more bytes are held than this; no more are
abbrev pub IsOverfull : {S : Type 0} → TrafficState S → ℕ → Type 0
IsOverfull s most = (total : ℕ) × HoldsInAll s total × (most < total)

abbrev pub HasRoomLeft : {S : Type 0} → TrafficState S → ℕ → Type 0
HasRoomLeft s most = (total : ℕ) × HoldsInAll s total × (total ≤ most)

-- ---- an event

-- an event was handed on: it made these entries and gave this
pub record Hands (journal : Bool) (terms : DispatcherTerms) (old : EngineState) (now : ℕ) (what : HubEvent)
    (given : ℕ) (new : EngineState) : Type 0
  where
    pub made : List Entry
    pub hands : HandsOn journal terms old now what made given new

-- a small piece came from a connection that may be offered more and had nothing pending. The piece is
-- offered: the hub takes some of it, and the rest is pending
pub record Offers {S : Type 0} (remaining : S → Option (List ℕ)) (journal : Bool) (terms : DispatcherTerms)
    (now number : ℕ) (old new : TrafficState S) : Type 0
  where
    pub may : MayBeOffered old.engine.hub number
    pub none_pending : pending_of (link_at old.table number) ≡ []
    pub bytes : List ℕ
    pub small : length bytes ≤ SMALL
    pub what : HubEvent
    pub given : ℕ
    pub hands : Hands journal terms old.engine now what given new.engine
    pub link : ChangesLink old.table number (λ link after. Consumes (remaining link.stream)
        (remaining after.stream) bytes × IsPieceOf what number (link.pending.items ++ bytes)
        × (after.pending.items ≡ drop given (link.pending.items ++ bytes)) × SameFlags link after) new.table

-- memory for lines of the account is refused, or a connection isn't open: it is to be looked at
pub record LooksLater (old : EngineState) (number : ℕ) (new : EngineState) : Type 0 where
  pub mid : EngineState
  pub gathers : Gathers old mid
  pub why : (0 < length mid.left) ⊎ (mid.hub.open_wires.wires number ≡ None)
  pub looks : LooksAt mid (number ∷ []) new
  pub hub : new.hub ≡ mid.hub
  pub lines : new.lines ≡ mid.lines
  pub left : new.left ≡ mid.left
  pub stored : new.stored ≡ mid.stored

-- the hub is told that a connection's peer is gone, or will be told later
abbrev pub TellsGone : Bool → DispatcherTerms → EngineState → ℕ → ℕ → EngineState → Type 0
TellsGone journal terms old now number new =
    ((given : ℕ) × Hands journal terms old now (event.Gone number) given new) ⊎ LooksLater old number new

-- a connection is given up: its socket is let go, and the hub is told that its peer is gone, or will be
pub record GivesUp {S : Type 0} (journal : Bool) (terms : DispatcherTerms) (now number : ℕ)
    (old new : TrafficState S) : Type 0
  where
    pub link : LetsGo old.table number new.table
    pub told : TellsGone journal terms old.engine now number new.engine

-- ---- accepting

-- an accepted socket is under a number that has room, in place of any that was there
pub record PutsUnder {S : Type 0} (now number : ℕ) (stream : S) (old new : TrafficState S) : Type 0 where
  pub room : number < length old.table
  pub fresh : IsFreshSlot stream now (link_at new.table number)
  pub others : ChangesOne old.table number new.table
  pub engine : new.engine ≡ old.engine

-- or the number has no room: then the connection is given up
pub record HasNoRoom {S : Type 0} (journal : Bool) (terms : DispatcherTerms) (now number : ℕ)
    (old new : TrafficState S) : Type 0
  where
    pub room : length old.table ≤ number
    pub gives_up : GivesUp journal terms now number old new

abbrev pub Attaches : {S : Type 0} → Bool → DispatcherTerms → ℕ → ℕ → S → TrafficState S → Bool
    → TrafficState S
    → Type 0
Attaches journal terms now number stream old true new = PutsUnder now number stream old new
Attaches journal terms now number stream old false new = HasNoRoom journal terms now number old new

-- ---- reading

-- no byte came from the socket, if there is one, and what is pending is as it was
pub record GaveNone {S : Type 0} (remaining : S → Option (List ℕ)) (link after : Socket S) : Type 0 where
  pub keeps : Keeps (remaining link.stream) (remaining after.stream)
  pub rest : KeepsOutput link after
  pub heard : after.heard ≡ link.heard

-- nothing came from its socket, or it has none
abbrev pub NoneCame : {S : Type 0} → (S → Option (List ℕ)) → ℕ → List (Option (Socket S))
    → List (Option (Socket S))
    → Type 0
NoneCame remaining number old new = ((link_at old number ≡ None) × (new ≡ old))
    ⊎ ChangesLink old number (GaveNone remaining) new

-- the input ended
pub record GaveEnd {S : Type 0} (remaining : S → Option (List ℕ)) (link after : Socket S) : Type 0 where
  pub is_end : IsAtEnd (remaining after.stream)
  pub none : Consumes (remaining link.stream) (remaining after.stream) []
  pub rest : KeepsOutput link after
  pub heard : after.heard ≡ link.heard

-- why a connection isn't read: more is held over all than there is room for, or it may not be offered more,
-- or it has bytes pending, which wait for their share
abbrev pub IsNotRead : {S : Type 0} → TrafficState S → ℕ → ℕ → Type 0
IsNotRead s room number = IsOverfull s room ⊎ ((¬ MayBeOffered s.engine.hub number)
    ⊎ (0 < length (pending_of (link_at s.table number))))

-- nothing is handed on: it isn't read, or nothing is pending and nothing came
pub record ReadsNothing {S : Type 0} (remaining : S → Option (List ℕ)) (room number : ℕ)
    (old new : TrafficState S) : Type 0
  where
    pub engine : new.engine ≡ old.engine
    pub why : (IsNotRead old room number × (new.table ≡ old.table))
        ⊎ (HasRoomLeft old room × (pending_of (link_at old.table number) ≡ [])
        × NoneCame remaining number old.table new.table)

-- a piece that isn't small came from a connection that may be offered more and had nothing pending: all of it
-- is pending now
pub record LaysPieceBy {S : Type 0} (remaining : S → Option (List ℕ)) (number : ℕ)
    (old new : TrafficState S) : Type 0
  where
    pub may : MayBeOffered old.engine.hub number
    pub none_pending : pending_of (link_at old.table number) ≡ []
    pub bytes : List ℕ
    pub many : SMALL < length bytes
    pub engine : new.engine ≡ old.engine
    pub link : ChangesLink old.table number (λ link after. Consumes (remaining link.stream)
        (remaining after.stream) bytes × (after.pending.items ≡ bytes) × SameFlags link after) new.table

-- the input of a connection with nothing pending ended, and the hub is told so
pub record EndsInput {S : Type 0} (remaining : S → Option (List ℕ)) (journal : Bool) (terms : DispatcherTerms)
    (now number : ℕ) (old new : TrafficState S) : Type 0
  where
    pub may : MayBeOffered old.engine.hub number
    pub none_pending : pending_of (link_at old.table number) ≡ []
    pub given : ℕ
    pub hands : Hands journal terms old.engine now (event.Ended number) given new.engine
    pub link : ChangesLink old.table number (GaveEnd remaining) new.table

-- a small piece was offered, of which the hub takes some: the rest is pending
pub record KeepsUntaken {S : Type 0} (journal : Bool) (terms : DispatcherTerms) (now number : ℕ) (bytes :
    List ℕ)
    (old new : TrafficState S) : Type 0
  where
    pub small : length bytes ≤ SMALL
    pub what : HubEvent
    pub piece : IsPieceOf what number bytes
    pub given : ℕ
    pub hands : Hands journal terms old.engine now what given new.engine
    pub link : ChangesLink old.table number (λ link after. (after.stream ≡ link.stream)
        × (after.pending.items ≡ drop given bytes) × SameFlags link after) new.table

-- a piece that isn't small is pending, as a whole
pub record KeepsWhole {S : Type 0} (number : ℕ) (bytes : List ℕ) (old new : TrafficState S) : Type 0 where
  pub many : SMALL < length bytes
  pub engine : new.engine ≡ old.engine
  pub link : ChangesLink old.table number (λ link after. (after.stream ≡ link.stream)
      × (after.pending.items ≡ bytes) × SameFlags link after) new.table

-- or there is such a rest, but memory for it was refused: the connection is given up
pub record LosesRest {S : Type 0} (journal : Bool) (terms : DispatcherTerms) (now number : ℕ) (bytes : List ℕ)
    (old new : TrafficState S) : Type 0
  where
    pub small : length bytes ≤ SMALL
    pub what : HubEvent
    pub piece : IsPieceOf what number bytes
    pub given : ℕ
    pub some : given < length bytes
    pub between : TrafficState S
    pub hands : Hands journal terms old.engine now what given between.engine
    pub others : ChangesOne old.table number between.table
    pub gives_up : GivesUp journal terms now number between new

-- or memory was refused for a piece that isn't small and wasn't offered
pub record LosesWhole {S : Type 0} (journal : Bool) (terms : DispatcherTerms) (now number : ℕ) (bytes :
    List ℕ)
    (old new : TrafficState S) : Type 0
  where
    pub many : SMALL < length bytes
    pub gives_up : GivesUp journal terms now number old new

abbrev pub LosesBytes : {S : Type 0} → Bool → DispatcherTerms → ℕ → ℕ → List ℕ → TrafficState S
    → TrafficState S
    → Type 0
LosesBytes journal terms now number bytes old new = LosesRest journal terms now number bytes old new
    ⊎ LosesWhole journal terms now number bytes old new

-- a piece came from the socket of a connection with nothing pending, but memory was refused for it, or for
-- what the hub didn't take of it
pub record LosesPiece {S : Type 0} (remaining : S → Option (List ℕ)) (journal : Bool) (terms :
    DispatcherTerms)
    (now number : ℕ) (old new : TrafficState S) : Type 0
  where
    pub may : MayBeOffered old.engine.hub number
    pub none_pending : pending_of (link_at old.table number) ≡ []
    pub bytes : List ℕ
    pub read : List (Option (Socket S))
    pub came : ChangesLink old.table number
        (λ link after. Consumes (remaining link.stream) (remaining after.stream) bytes) read
    pub loses : LosesBytes journal terms now number bytes (record old { table = read }) new

-- a read from the socket of a connection with nothing pending failed: the connection is given up
pub record FailsToRead {S : Type 0} (journal : Bool) (terms : DispatcherTerms) (now number : ℕ)
    (old new : TrafficState S) : Type 0
  where
    pub may : MayBeOffered old.engine.hub number
    pub none_pending : pending_of (link_at old.table number) ≡ []
    pub readable : IsReadable (link_at old.table number)
    pub gives_up : GivesUp journal terms now number old new

-- what comes of one connection that has nothing pending and may be offered more
abbrev pub ReadsNew : {S : Type 0} → (S → Option (List ℕ)) → Bool → DispatcherTerms → ℕ → ℕ → TrafficState S
    → Reading → TrafficState S → Type 0
ReadsNew remaining journal terms now number old reading.Nothing new =
    (new.engine ≡ old.engine) × NoneCame remaining number old.table new.table
ReadsNew remaining journal terms now number old reading.Offered new =
    Offers remaining journal terms now number old new
ReadsNew remaining journal terms now number old reading.Kept new = LaysPieceBy remaining number old new
ReadsNew remaining journal terms now number old reading.Ended new =
    EndsInput remaining journal terms now number old new
ReadsNew remaining journal terms now number old reading.Broken new =
    FailsToRead journal terms now number old new
ReadsNew remaining journal terms now number old reading.NoMemory new =
    LosesPiece remaining journal terms now number old new

-- what comes of one connection's turn to be read, if there is room for so many bytes in all: if something
-- came, no more bytes than that were held
abbrev pub ReadsOne : {S : Type 0} → (S → Option (List ℕ)) → ℕ → Bool → DispatcherTerms → ℕ → ℕ
    → TrafficState S
    → Reading → TrafficState S → Type 0
ReadsOne remaining room journal terms now number old reading.Nothing new =
    ReadsNothing remaining room number old new
ReadsOne remaining room journal terms now number old reading.Offered new =
    HasRoomLeft old room × Offers remaining journal terms now number old new
ReadsOne remaining room journal terms now number old reading.Kept new =
    HasRoomLeft old room × LaysPieceBy remaining number old new
ReadsOne remaining room journal terms now number old reading.Ended new =
    HasRoomLeft old room × EndsInput remaining journal terms now number old new
ReadsOne remaining room journal terms now number old reading.Broken new =
    HasRoomLeft old room × FailsToRead journal terms now number old new
ReadsOne remaining room journal terms now number old reading.NoMemory new =
    HasRoomLeft old room × LosesPiece remaining journal terms now number old new

-- what comes of a piece that was read from a connection with nothing pending
abbrev pub OffersPiece : {S : Type 0} → Bool → DispatcherTerms → ℕ → ℕ → List ℕ → TrafficState S → Reading
    → TrafficState S → Type 0
OffersPiece journal terms now number bytes old reading.Nothing new = ⊥
OffersPiece journal terms now number bytes old reading.Offered new =
    KeepsUntaken journal terms now number bytes old new
OffersPiece journal terms now number bytes old reading.Kept new = KeepsWhole number bytes old new
OffersPiece journal terms now number bytes old reading.Ended new = ⊥
OffersPiece journal terms now number bytes old reading.Broken new = ⊥
OffersPiece journal terms now number bytes old reading.NoMemory new =
    LosesBytes journal terms now number bytes old new

-- ---- shares

-- the first pending bytes of a connection that may be offered more are offered, at most a share of them; the
-- hub takes some, and those that it doesn't take stay pending with the rest
pub record OffersShare {S : Type 0} (journal : Bool) (terms : DispatcherTerms) (now number : ℕ)
    (old new : TrafficState S) : Type 0
  where
    pub may : MayBeOffered old.engine.hub number
    pub some : 0 < length (pending_of (link_at old.table number))
    pub what : HubEvent
    pub given : ℕ
    pub hands : Hands journal terms old.engine now what given new.engine
    pub link : ChangesLink old.table number (λ link after. (after.stream ≡ link.stream)
        × IsPieceOf what number (take SHARE link.pending.items)
        × (after.pending.items ≡ drop given (take SHARE link.pending.items) ++ drop SHARE link.pending.items)
        × SameFlags link after) new.table

-- or the connection may not be offered more, or has nothing pending
pub record OffersNone {S : Type 0} (number : ℕ) (old new : TrafficState S) : Type 0 where
  pub engine : new.engine ≡ old.engine
  pub table : new.table ≡ old.table
  pub why : (¬ MayBeOffered old.engine.hub number) ⊎ (pending_of (link_at old.table number) ≡ [])

-- what comes of one connection's share
abbrev pub OffersOne : {S : Type 0} → Bool → DispatcherTerms → ℕ → ℕ → TrafficState S → Bool → TrafficState S
    → Type 0
OffersOne journal terms now number old true new = OffersShare journal terms now number old new
OffersOne journal terms now number old false new = OffersNone number old new

-- ---- writing

-- the socket took these bytes at a moment
pub record TookSome {S : Type 0} (contents : S → Option (List ℕ)) (now : ℕ) (bytes : List ℕ)
    (link after : Socket S) : Type 0
  where
    pub appends : Appends (contents link.stream) (contents after.stream) bytes
    pub rest : KeepsInput link after
    pub writable : after.is_writable ≡ link.is_writable
    pub moved : after.moved ≡ now
    pub sent : after.sent ≡ now

-- the socket took the first of the bytes that may leave, at least one, and the hub is told exactly how many
pub record Sends {S : Type 0} (contents : S → Option (List ℕ)) (journal : Bool) (terms : DispatcherTerms)
    (now number : ℕ) (old new : TrafficState S) : Type 0
  where
    pub wire : Traffic
    pub is_open : old.engine.hub.open_wires.wires number ≡ Some wire
    pub count : ℕ
    pub some : 0 < count
    pub within : count ≤ length wire.ready
    pub given : ℕ
    pub hands : Hands journal terms old.engine now (event.Took number count) given new.engine
    pub link : ChangesLink old.table number (TookSome contents now (take count wire.ready)) new.table

-- the socket took none of these bytes: there were none at this moment, or a write took none
pub record TookNone {S : Type 0} (contents : S → Option (List ℕ)) (now : ℕ) (ready : List ℕ)
    (link after : Socket S) : Type 0
  where
    pub keeps : Keeps (contents link.stream) (contents after.stream)
    pub rest : KeepsInput link after
    pub why : ((ready ≡ []) × (after ≡ rested link now))
        ⊎ ((0 < length ready) × WritesOnce contents now link ready output.Nothing after)

-- nothing is written or reported: the connection is closed and has no socket, or it is open, and its socket
-- took none of what may leave
pub record SendsNothing {S : Type 0} (contents : S → Option (List ℕ)) (now number : ℕ)
    (old new : TrafficState S) : Type 0
  where
    pub engine : new.engine ≡ old.engine
    pub why : ((link_at old.table number ≡ None) × (new.table ≡ old.table)
        × (old.engine.hub.open_wires.wires number ≡ None))
        ⊎ HasWire old.engine.hub.open_wires number
        (λ wire. ChangesLink old.table number (TookNone contents now wire.ready) new.table)

-- bytes were ready, and a write to its socket failed: the connection is given up
pub record FailsToWrite {S : Type 0} (journal : Bool) (terms : DispatcherTerms) (now number : ℕ)
    (old new : TrafficState S) : Type 0
  where
    pub ready : HasWire old.engine.hub.open_wires number (λ wire. 0 < length wire.ready)
    pub writable : IsWritable (link_at old.table number)
    pub gives_up : GivesUp journal terms now number old new

-- a connection that isn't open loses its socket
pub record ClosesSocket {S : Type 0} (number : ℕ) (old new : TrafficState S) : Type 0 where
  pub closed : old.engine.hub.open_wires.wires number ≡ None
  pub engine : new.engine ≡ old.engine
  pub link : LetsGo old.table number new.table

-- what comes of one connection's turn to be written to
abbrev pub WritesOne : {S : Type 0} → (S → Option (List ℕ)) → Bool → DispatcherTerms → ℕ → ℕ → TrafficState S
    → Writing → TrafficState S → Type 0
WritesOne contents journal terms now number old writing.Nothing new =
    SendsNothing contents now number old new
WritesOne contents journal terms now number old writing.Sent new =
    Sends contents journal terms now number old new
WritesOne contents journal terms now number old writing.Closed new = ClosesSocket number old new
WritesOne contents journal terms now number old writing.Gone new =
    (link_at old.table number ≡ None) × (new.table ≡ old.table) × (given : ℕ)
    × Hands journal terms old.engine now (event.Gone number) given new.engine
WritesOne contents journal terms now number old writing.Broken new =
    FailsToWrite journal terms now number old new
