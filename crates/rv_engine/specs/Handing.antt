-- What comes of an event that a shell hands to an engine.
use Rattle.std.specs.Prelude.{ℕ, ◌≡◌, ◌<◌, ◌≤◌, ◌-◌, ◌↔◌, ◌⊎◌, Bool, false, true, List, [], ◌++◌, Contains}
use Rattle.std.specs.Prelude.{length}
use Rattle.std.specs.Prelude.{None, Option, Some, map, take}
use Rattle.rv_account.specs.declared.entry.Entry.{Entry}
use Rattle.rv_frame.specs.Lasting.{LastingDevice, TakesBytes}
use Rattle.rv_book.specs.lines.Lines.{printed_lines}
use Rattle.rv_book.specs.lines.Written.{entry_text}
use Rattle.rv_hub.specs.dispatcher.View.{DispatcherTerms, begun}
use Rattle.rv_hub.specs.dispatcher.Runs.{ListsChanged}
use Rattle.rv_hub.specs.declared.events.EventRefusal.{EventRefusal}
use Rattle.rv_hub.specs.declared.events.HubEvent.{HubEvent}
use Rattle.rv_hub.specs.declared.events.HubEvent.TheVariants as event
use Rattle.rv_hub.specs.Turns.{EventRefused, TakesEvent, TakesPiece}
use Rattle.rv_engine.specs.declared.events.EngineFault.{EngineFault}
use Rattle.rv_engine.specs.declared.events.EngineFault.TheVariants as fault
use Rattle.rv_engine.specs.declared.events.LinkEvent.{LinkEvent}
use Rattle.rv_engine.specs.declared.events.LinkEvent.TheVariants as link
use Rattle.rv_engine.specs.Engines.{EngineState}

-- the same event, as it is handed to the hub
abbrev pub told_hub : LinkEvent → HubEvent
told_hub link.Opened = event.Opened
told_hub (link.Came connection piece) = event.Came connection piece
told_hub (link.Ended connection) = event.Ended connection
told_hub (link.Gone connection) = event.Gone connection
told_hub (link.Took connection count) = event.Took connection count
told_hub link.Passed = event.Passed

-- any event but the opening of a connection
abbrev pub IsNoOpening : HubEvent → Type 0
IsNoOpening event.Opened = ⊥
IsNoOpening (event.Came connection piece) = Unit {0}
IsNoOpening (event.Ended connection) = Unit {0}
IsNoOpening (event.Gone connection) = Unit {0}
IsNoOpening (event.Took connection count) = Unit {0}
IsNoOpening (event.Written entries) = Unit {0}
IsNoOpening event.Passed = Unit {0}

-- the hub is told that no more entries are written than are stored
abbrev pub TellsStored : HubEvent → ℕ → Type 0
TellsStored event.Opened stored = Unit {0}
TellsStored (event.Came connection piece) stored = Unit {0}
TellsStored (event.Ended connection) stored = Unit {0}
TellsStored (event.Gone connection) stored = Unit {0}
TellsStored (event.Took connection count) stored = Unit {0}
TellsStored (event.Written entries) stored = entries ≤ stored
TellsStored event.Passed stored = Unit {0}

-- ---- the account

-- the lines of entries, as they are written for an account
abbrev pub entry_lines : List Entry → List ℕ
entry_lines entries = printed_lines (map entry_text entries)

-- all lines that aren't written: those that are gathered, and those of the entries that are left
abbrev pub unwritten : EngineState → List ℕ
unwritten s = s.lines ++ entry_lines s.left

-- the entries that are to be written, if an account is kept; else none
abbrev pub entries_kept : Bool → List Entry → List Entry
entries_kept true made = made
entries_kept false made = []

-- the lines of the first of these entries are gathered after those that were, and the other entries are left
pub record GathersFront (entries : List Entry) (before : List ℕ) (left : List Entry) (lines : List ℕ) :
    Type 0
  where
    pub front : List Entry
    pub parts : entries ≡ front ++ left
    pub gathered : lines ≡ before ++ entry_lines front

-- how many entries have their line gathered or stored
abbrev pub gathered_count : EngineState → ℕ
gathered_count s = s.hub.book.length - length s.left

-- ---- which connections to look at

-- the list has those that it had, and all of these that are below the room
abbrev pub AddsLooks : ℕ → List ℕ → List ℕ → List ℕ → Type 0
AddsLooks room old numbers new = (n : ℕ)
    → Contains new n ↔ (Contains old n ⊎ (Contains numbers n × (n < room)))

pub record SameLooks (old new : EngineState) : Type 0 where
  pub looks : new.looks ≡ old.looks
  pub round : new.round ≡ old.round
  pub room : new.room ≡ old.room

-- these are to be looked at too, in the next round
pub record LooksAt (old : EngineState) (numbers : List ℕ) (new : EngineState) : Type 0 where
  pub looks : AddsLooks old.room old.looks numbers new.looks
  pub round : new.round ≡ old.round
  pub room : new.room ≡ old.room

-- ---- events

-- the lines of entries that are left are gathered, as far as memory allows, and nothing else changes
pub record Gathers (old new : EngineState) : Type 0 where
  pub gathers : GathersFront old.left old.lines new.left new.lines
  pub hub : new.hub ≡ old.hub
  pub stored : new.stored ≡ old.stored
  pub looks : SameLooks old new

-- the event was handed on, once all lines of earlier entries were gathered, and the hub took it; an event
-- that entries are written is about stored ones alone. The lines of the entries that it made are gathered
-- too, or these entries are left; and each connection that changed is to be looked at
pub record HandsOn (journal : Bool) (terms : DispatcherTerms) (old : EngineState) (handed : ℕ) (what :
    HubEvent)
    (made : List Entry) (given : ℕ) (new : EngineState) : Type 0
  where
    pub tells : TellsStored what old.stored
    pub takes : TakesEvent journal terms old.hub handed what made given new.hub
    pub stored : new.stored ≡ old.stored
    pub gathers : GathersFront (entries_kept journal made) (unwritten old) new.left new.lines
    pub piece : TakesPiece what given new.hub
    pub listed : ListsChanged (begun old.hub) new.hub
    pub looks : LooksAt old new.hub.changed new

-- memory was refused for lines of earlier entries: the event wasn't handed on
pub record NotHandedOn (old new : EngineState) : Type 0 where
  pub gathers : Gathers old new
  pub some : 0 < length new.left

-- the hub refused the event, once all lines of earlier entries were gathered
pub record RefusedByHub (old : EngineState) (what : HubEvent) (why : EventRefusal) (new : EngineState) :
    Type 0 where
  pub refused : EventRefused old.hub what why
  pub hub : new.hub ≡ begun old.hub
  pub left : new.left ≡ []
  pub lines : new.lines ≡ unwritten old
  pub stored : new.stored ≡ old.stored
  pub looks : SameLooks old new

-- why an event isn't taken
abbrev pub IsRefused : EngineState → HubEvent → EngineFault → EngineState → Type 0
IsRefused old what (fault.Refused why) new = RefusedByHub old what why new
IsRefused old what fault.NoMemory new = NotHandedOn old new
IsRefused old what (fault.NotWritten why) new = ⊥

-- ---- writing

-- these are the first of the lines that weren't written, and they are written now; lines of entries that were
-- left may have been gathered
pub record WritesLines (old : EngineState) (bytes : List ℕ) (new : EngineState) : Type 0 where
  pub gathers : GathersFront old.left old.lines new.left (bytes ++ new.lines)
  pub hub : new.hub ≡ old.hub
  pub looks : SameLooks old new

-- the device took all lines that are gathered, which are these bytes: so many entries are stored
pub record StoresLines (old : EngineState) (bytes : List ℕ) (entries : ℕ) (new : EngineState) : Type 0 where
  pub writes : WritesLines old bytes new
  pub gone : new.lines ≡ []
  pub entries_are : entries ≡ gathered_count new
  pub stored : new.stored ≡ entries

-- the device took all lines that are gathered
abbrev pub lines_gone : EngineState → EngineState
lines_gone s = record s { lines = []; stored = gathered_count s }

-- all lines are gathered, and the device took them
abbrev pub all_gone : EngineState → EngineState
all_gone s = record s { lines = []; left = []; stored = s.hub.book.length }

-- the event that all the hub's entries are written
abbrev pub written_event : EngineState → HubEvent
written_event s = event.Written s.hub.book.length

-- if the hub knows of fewer entries as written, it is told that all are, and gives this
abbrev pub TellsWritten : Bool → DispatcherTerms → EngineState → ℕ → List Entry → Option ℕ → EngineState
    → Type 0
TellsWritten journal terms old now made None new =
    (old.hub.book.length ≤ old.hub.open_wires.written) × (new ≡ old)
TellsWritten journal terms old now made (Some given) new =
    (old.hub.open_wires.written < old.hub.book.length)
    × HandsOn journal terms old now (written_event old) made given new

-- no write to the device failed, now or before
pub record HasWorked {L : Type 0} (lasts : LastingDevice L) (before after : L) : Type 0 where
  pub worked : lasts.failed before ≡ false
  pub works : lasts.failed after ≡ false

-- the device took only a part of the lines that are gathered and has failed, or had failed before and took
-- none. They stay gathered, and no further entry is stored
pub record WritesInPart {L : Type 0} (lasts : LastingDevice L) (old : EngineState) (before : L) (sent : ℕ)
    (new : EngineState) (after : L) : Type 0
  where
    pub gathers : Gathers old new
    pub takes : TakesBytes lasts before after (take sent new.lines)
    pub failed : lasts.failed after ≡ true
    pub refused : lasts.failed before ≡ true → sent ≡ 0

-- the device took all lines that were gathered, but memory for others was refused
pub record StoresSome {L : Type 0} (lasts : LastingDevice L) (old : EngineState) (before : L)
    (new : EngineState) (after : L) : Type 0
  where
    pub some : 0 < length new.left
    pub bytes : List ℕ
    pub takes : TakesBytes lasts before after bytes
    pub stores : StoresLines old bytes (gathered_count new) new
    pub works : HasWorked lasts before after

-- why the hub isn't told
abbrev pub IsNotTold : {L : Type 0} → LastingDevice L → EngineState → L → EngineFault → EngineState → L
    → Type 0
IsNotTold lasts old before (fault.NotWritten why) new after =
    WritesInPart lasts old before why.sent new after
IsNotTold lasts old before fault.NoMemory new after = StoresSome lasts old before new after
IsNotTold lasts old before (fault.Refused why) new after = ⊥
