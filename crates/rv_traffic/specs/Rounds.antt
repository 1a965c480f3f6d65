-- A round over all that are to be looked at: one turn for each, joined state to state.
use Rattle.std.specs.Prelude.{ℕ, ◌≡◌, ◌≢◌, ◌<◌, ◌≤◌, ◌⊎◌, AllPairs, Bool, Contains, List, [], ◌∷◌, ◌++◌, None}
use Rattle.std.specs.Prelude.{Option, Some, false, length, map, true}
use Rattle.std.specs.List.{count_by}
use Rattle.rv_server_connections.specs.Connections.{HasWire}
use Rattle.rv_hub.specs.dispatcher.View.{DispatcherTerms}
use Rattle.rv_engine.specs.Engines.{EngineState}
use Rattle.rv_engine.specs.EngineRuns.{ChangesLooks}
use Rattle.rv_engine.specs.Handing.{Gathers, LooksAt}
use Rattle.rv_traffic.specs.links.Table.{HasInput, IsWritable, link_at, pending_of}
use Rattle.rv_traffic.specs.declared.traffic.TheConstants.{SHARES}
use Rattle.rv_traffic.specs.declared.outcomes.ReadFaults.{ReadFaults}
use Rattle.rv_traffic.specs.declared.outcomes.Reading.{Reading}
use Rattle.rv_traffic.specs.declared.outcomes.Reading.TheVariants as reading
use Rattle.rv_traffic.specs.declared.outcomes.Writing.{Writing}
use Rattle.rv_traffic.specs.declared.outcomes.Writing.TheVariants as writing
use Rattle.rv_traffic.specs.Calls.{IsOverfull, MayBeOffered, OffersOne, ReadsOne, WritesOne}
use Rattle.rv_traffic.specs.Waiting.{HasToWait, IsToWait, shares_begun}
use Rattle.rv_traffic.specs.Views.{TrafficState}

-- ---- a turn

-- which connection's turn it was, and what came of it: nothing is read or written while memory for lines of
-- the account is refused
pub record Turn (A : Type 0) : Type 0 where
  pub number : ℕ
  pub came : Option A

-- if no entry is left, a read or a write is made, else none
abbrev pub DoesWhere : {S A : Type 0} → (TrafficState S → A → TrafficState S → Type 0) → TrafficState S
    → Option A → TrafficState S → Type 0
DoesWhere does old None new = (0 < length old.engine.left) × (new ≡ old)
DoesWhere does old (Some came) new = (old.engine.left ≡ []) × does old came new

-- before that, lines of entries that are left are gathered, as far as memory allows
pub record DoesIfReady {S A : Type 0} (does : TrafficState S → A → TrafficState S → Type 0)
    (old : TrafficState S) (came : Option A) (new : TrafficState S) : Type 0
  where
    pub ready : EngineState
    pub gathers : Gathers old.engine ready
    pub made : DoesWhere does (record old { engine = ready }) came new
    pub waits : new.waits ≡ old.waits

-- a connection is to be looked at again, and nothing else changes
pub record LooksAgain {S : Type 0} (old : TrafficState S) (number : ℕ) (new : TrafficState S) : Type 0 where
  pub looks : LooksAt old.engine (number ∷ []) new.engine
  pub same : ChangesLooks old.engine new.engine
  pub table : new.table ≡ old.table
  pub waits : new.waits ≡ old.waits

-- a connection with pending bytes that may be offered waits for a share
abbrev pub WaitsForMore : {S : Type 0} → TrafficState S → ℕ → TrafficState S → Type 0
WaitsForMore old number new =
    (HasToWait old number × IsToWait old number new) ⊎ ((¬ HasToWait old number) × (new ≡ old))

-- a connection has nothing pending and more can be read from its socket at once, or more can be written to it
abbrev pub CanDoMore : {S : Type 0} → TrafficState S → ℕ → Type 0
CanDoMore s number =
    (MayBeOffered s.engine.hub number × HasInput (link_at s.table number)
    × (pending_of (link_at s.table number) ≡ []))
    ⊎ (HasWire s.engine.hub.open_wires number (λ wire. 0 < length wire.ready)
    × IsWritable (link_at s.table number))

-- after its turn a connection is to be looked at again, unless it was written to and no more can be done
abbrev pub LooksForMore : {S : Type 0} → Option Writing → TrafficState S → ℕ → TrafficState S → Type 0
LooksForMore None old number new = LooksAgain old number new
LooksForMore (Some what) old number new =
    (CanDoMore old number × LooksAgain old number new) ⊎ ((¬ CanDoMore old number) × (new ≡ old))

-- a connection waits for a share if more is pending, and is to be written to
pub record ComesToRest {S : Type 0} (old : TrafficState S) (number : ℕ) (new : TrafficState S) : Type 0 where
  pub between : TrafficState S
  pub waits : WaitsForMore old number between
  pub again : LooksAgain between number new

-- a connection's input has its turn; the connection waits for a share if more is pending, and is to be
-- written to
pub record MakesTurn {S A : Type 0} (does : ℕ → TrafficState S → A → TrafficState S → Type 0)
    (old : TrafficState S) (turn : Turn A) (new : TrafficState S) : Type 0
  where
    pub after : TrafficState S
    pub made : DoesIfReady (does turn.number) old turn.came after
    pub settles : ComesToRest after turn.number new

-- it is read once, if there is room for so many bytes in all
abbrev pub ReadsTurn : {S : Type 0} → (S → Option (List ℕ)) → ℕ → Bool → DispatcherTerms → ℕ → TrafficState S
    → Turn Reading → TrafficState S → Type 0
ReadsTurn {S} remaining room journal terms now old turn new =
    MakesTurn (λ (number : ℕ). ReadsOne {S = S} remaining room journal terms now number) old turn new

-- its share is offered
abbrev pub SharesTurn : {S : Type 0} → Bool → DispatcherTerms → ℕ → TrafficState S → Turn Bool
    → TrafficState S
    → Type 0
SharesTurn {S} journal terms now old turn new =
    MakesTurn (λ (number : ℕ). OffersOne {S = S} journal terms now number) old turn new

-- it is written to once
pub record WritesTurn {S : Type 0} (contents : S → Option (List ℕ)) (journal : Bool) (terms : DispatcherTerms)
    (now : ℕ) (old : TrafficState S) (turn : Turn Writing) (new : TrafficState S) : Type 0
  where
    pub after : TrafficState S
    pub writes : DoesIfReady (WritesOne contents journal terms now turn.number) old turn.came after
    pub between : TrafficState S
    pub waits : WaitsForMore after turn.number between
    pub again : LooksForMore turn.came between turn.number new

-- ---- all turns

-- the last connection of the round leaves it, and has its turn
pub record TakesNext {S A : Type 0} (takes : TrafficState S → Turn A → TrafficState S → Type 0)
    (old : TrafficState S) (turn : Turn A) (new : TrafficState S) : Type 0
  where
    pub round : List ℕ
    pub last : old.engine.round ≡ round ++ turn.number ∷ []
    pub taken : takes (record old { engine = record old.engine { round = round } }) turn new

-- turns, the last of the list first, each beginning where the one before it ended
abbrev pub TakesTurns : {S A : Type 0} → (TrafficState S → Turn A → TrafficState S → Type 0)
    → TrafficState S → List (Turn A) → TrafficState S → Type 0
TakesTurns takes old [] new = new ≡ old
TakesTurns {S} takes old (turn ∷ turns) new =
    (between : TrafficState S) × TakesTurns takes old turns between × TakesNext takes between turn new

-- the connections that are to be looked at are the round, and those of an earlier round are to be looked at
-- in the next
abbrev pub round_begun : {S : Type 0} → TrafficState S → TrafficState S
round_begun s = record s { engine = record s.engine { looks = s.engine.round; round = s.engine.looks } }

-- each that was to be looked at had one turn, and nothing else happened: no other socket changed
pub record GoesRound {S A : Type 0} (takes : TrafficState S → Turn A → TrafficState S → Type 0)
    (old : TrafficState S) (turns : List (Turn A)) (new : TrafficState S) : Type 0
  where
    pub numbers : map (λ turn. turn.number) turns ≡ old.engine.looks
    pub once : AllPairs (λ one other. one ≢ other) old.engine.looks
    pub taken : TakesTurns takes (round_begun old) turns new
    pub over : new.engine.round ≡ []
    pub others : (n : ℕ) → ¬ Contains old.engine.looks n → link_at new.table n ≡ link_at old.table n

-- ---- shares

-- the last connection whose share is due has its turn
pub record TakesDue {S A : Type 0} (takes : TrafficState S → Turn A → TrafficState S → Type 0)
    (old : TrafficState S) (turn : Turn A) (new : TrafficState S) : Type 0
  where
    pub due : List ℕ
    pub last : old.waits.due ≡ due ++ turn.number ∷ []
    pub taken : takes (record old { waits = record old.waits { due = due } }) turn new

-- so do those before it, the last of the list first
abbrev pub TakesShares : {S A : Type 0} → (TrafficState S → Turn A → TrafficState S → Type 0)
    → TrafficState S → List (Turn A) → TrafficState S → Type 0
TakesShares takes old [] new = new ≡ old
TakesShares {S} takes old (turn ∷ turns) new =
    (between : TrafficState S) × TakesShares takes old turns between × TakesDue takes between turn new

-- one connection gets its share
abbrev pub SharesNext : {S : Type 0} → Bool → DispatcherTerms → ℕ → TrafficState S → TrafficState S → Type 0
SharesNext journal terms now old new =
    (turn : Turn Bool) × TakesDue (SharesTurn journal terms now) old turn new

-- or none does: more is held over all than there is room for, or no share is due
pub record SharesNone {S : Type 0} (room : ℕ) (old new : TrafficState S) : Type 0 where
  pub same : new ≡ old
  pub why : (old.waits.due ≡ []) ⊎ IsOverfull old room

-- so many waiting connections get a share, one each and the last first, unless more is held over all than
-- there is room for; when none of this round is left, those of the next follow
pub record SharesOut {S : Type 0} (room : ℕ) (journal : Bool) (terms : DispatcherTerms) (now : ℕ)
    (old new : TrafficState S) : Type 0
  where
    pub turns : List (Turn Bool)
    pub taken : TakesShares (SharesTurn journal terms now)
        (record old { waits = shares_begun old.waits }) turns new
    pub numbers : (shares_begun old.waits).due ≡ new.waits.due ++ map (λ turn. turn.number) turns
    pub once : AllPairs (λ one other. one ≢ other) (shares_begun old.waits).due
    pub most : length turns ≤ SHARES
    pub whole : (length turns ≡ SHARES) ⊎ ((new.waits.due ≡ []) ⊎ IsOverfull new room)

-- ---- what is counted of them

abbrev pub is_read_broken : Option Reading → Bool
is_read_broken None = false
is_read_broken (Some reading.Nothing) = false
is_read_broken (Some reading.Offered) = false
is_read_broken (Some reading.Kept) = false
is_read_broken (Some reading.Ended) = false
is_read_broken (Some reading.Broken) = true
is_read_broken (Some reading.NoMemory) = false

abbrev pub is_read_refused : Option Reading → Bool
is_read_refused None = false
is_read_refused (Some reading.Nothing) = false
is_read_refused (Some reading.Offered) = false
is_read_refused (Some reading.Kept) = false
is_read_refused (Some reading.Ended) = false
is_read_refused (Some reading.Broken) = false
is_read_refused (Some reading.NoMemory) = true

abbrev pub is_write_broken : Option Writing → Bool
is_write_broken None = false
is_write_broken (Some writing.Nothing) = false
is_write_broken (Some writing.Sent) = false
is_write_broken (Some writing.Closed) = false
is_write_broken (Some writing.Gone) = false
is_write_broken (Some writing.Broken) = true

-- how many sockets failed, and for how many connections memory was refused
abbrev pub read_faults : List (Turn Reading) → ReadFaults
read_faults turns = record {
  broken = count_by (λ turn. is_read_broken turn.came) turns;
  no_memory = count_by (λ turn. is_read_refused turn.came) turns;
}

abbrev pub write_faults : List (Turn Writing) → ℕ
write_faults turns = count_by (λ turn. is_write_broken turn.came) turns

-- each that was to be looked at is read once
pub record ReadsRound {S : Type 0} (remaining : S → Option (List ℕ)) (room : ℕ) (journal : Bool)
    (terms : DispatcherTerms) (now : ℕ) (old : TrafficState S) (faults : ReadFaults) (new : TrafficState S) :
    Type 0
  where
    pub turns : List (Turn Reading)
    pub round : GoesRound (ReadsTurn remaining room journal terms now) old turns new
    pub told : faults ≡ read_faults turns

-- each that was to be looked at is written to once
pub record WritesRound {S : Type 0} (contents : S → Option (List ℕ)) (journal : Bool) (terms :
    DispatcherTerms)
    (now : ℕ) (old : TrafficState S) (broken : ℕ) (new : TrafficState S) : Type 0
  where
    pub turns : List (Turn Writing)
    pub round : GoesRound (WritesTurn contents journal terms now) old turns new
    pub told : broken ≡ write_faults turns
