-- What calls do to the engine is a run of it, and so are several calls in a row, so that the laws of an
-- engine's runs, and of a hub's, hold for a whole turn of a server.
use Rattle.std.specs.Prelude.{ℕ, ◌≡◌, ◌++◌, Bool, List, [], None, Option, Some, false, true}
use Rattle.rv_account.specs.declared.entry.Entry.{Entry}
use Rattle.rv_hub.specs.dispatcher.View.{DispatcherTerms}
use Rattle.rv_frame.specs.Lasting.{LastingDevice, TakesBytes}
use Rattle.rv_hub.specs.declared.events.HubEvent.{HubEvent}
use Rattle.rv_engine.specs.declared.events.EngineFault.{EngineFault}
use Rattle.rv_hub.specs.Hubs.{hub_terms}
use Rattle.rv_engine.specs.Engines.{EngineState, engine_state}
use Rattle.rv_engine.specs.EngineRuns.{ChangesLooks, EngineEffect, RunsEngine, bytes_written}
use Rattle.rv_engine.specs.Handing.{Gathers, HandsOn, HasWorked, IsNotTold, IsRefused, TellsWritten}
use Rattle.rv_engine.specs.Handing.{all_gone, unwritten}
use Rattle.rv_traffic.specs.declared.outcomes.ReadFaults.{ReadFaults}
use Rattle.rv_traffic.specs.Calls.{TellsGone}
use Rattle.rv_traffic.specs.Rounds.{ReadsRound, SharesOut, WritesRound}
use Rattle.rv_traffic.specs.declared.traffic.Switchboard.{Switchboard}
use Rattle.rv_traffic.specs.Views.{SameTerms, TrafficState}

-- one engine comes of some effects on the other, in which the device took these lines
pub record RunsBehind (journal : Bool) (terms : DispatcherTerms) (s : EngineState) (bytes : List ℕ)
    (t : EngineState) : Type 0
  where
    pub effects : List EngineEffect
    pub runs : RunsEngine journal terms s effects t
    pub bytes_are : bytes_written effects ≡ bytes

-- so does the engine behind sockets, while the device took nothing
pub record OnlyCalls {S : Type 0} (old new : Switchboard S) : Type 0 where
  pub terms : SameTerms old new
  pub runs : RunsBehind old.engine.hub.has_journal (hub_terms old.engine.hub) (engine_state old.engine) []
      (engine_state new.engine)

-- calls one after another are one run
abbrev pub RunsAreJoined : Type 0
RunsAreJoined = (journal : Bool) (terms : DispatcherTerms) (s t u : EngineState) (first second : List ℕ)
    → RunsBehind journal terms s first t → RunsBehind journal terms t second u
    → RunsBehind journal terms s (first ++ second) u

abbrev pub EventsAreRuns : Type 0
EventsAreRuns = (journal : Bool) (terms : DispatcherTerms) (s t : EngineState) (now : ℕ) (what : HubEvent)
    (made : List Entry) (given : ℕ) → HandsOn journal terms s now what made given t
    → RunsBehind journal terms s [] t

abbrev pub RefusalsAreRuns : Type 0
RefusalsAreRuns = (journal : Bool) (terms : DispatcherTerms) (s t : EngineState) (what : HubEvent)
    (why : EngineFault) → IsRefused s what why t → RunsBehind journal terms s [] t

abbrev pub LooksAreRuns : Type 0
LooksAreRuns = (journal : Bool) (terms : DispatcherTerms) (s t : EngineState) → ChangesLooks s t
    → RunsBehind journal terms s [] t

abbrev pub GatheringsAreRuns : Type 0
GatheringsAreRuns = (journal : Bool) (terms : DispatcherTerms) (s t : EngineState) → Gathers s t
    → RunsBehind journal terms s [] t

-- a connection is given up
abbrev pub EndsAreRuns : Type 0
EndsAreRuns = (journal : Bool) (terms : DispatcherTerms) (s t : EngineState) (now number : ℕ)
    → TellsGone journal terms s now number t → RunsBehind journal terms s [] t

abbrev pub ReadRoundsAreRuns : {S : Type 0} → (S → Option (List ℕ)) → Type 0
ReadRoundsAreRuns {S} remaining = (journal : Bool) (terms : DispatcherTerms) (room now : ℕ)
    (old new : TrafficState S) (faults : ReadFaults)
    → ReadsRound remaining room journal terms now old faults new
    → RunsBehind journal terms old.engine [] new.engine

abbrev pub SharesAreRuns : Type 0 → Type 0
SharesAreRuns S = (journal : Bool) (terms : DispatcherTerms) (room now : ℕ) (old new : TrafficState S)
    → SharesOut room journal terms now old new → RunsBehind journal terms old.engine [] new.engine

abbrev pub WriteRoundsAreRuns : {S : Type 0} → (S → Option (List ℕ)) → Type 0
WriteRoundsAreRuns {S} contents = (journal : Bool) (terms : DispatcherTerms) (now : ℕ) (old new :
    TrafficState S)
    (broken : ℕ) → WritesRound contents journal terms now old broken new
    → RunsBehind journal terms old.engine [] new.engine

-- all lines of the account are written, and the hub is told so if it knew of fewer
abbrev pub WrittenLinesAreRuns : Type 0
WrittenLinesAreRuns = (journal : Bool) (terms : DispatcherTerms) (s t : EngineState) (now : ℕ) (made :
    List Entry)
    (told : Option ℕ) → TellsWritten journal terms (all_gone s) now made told t
    → RunsBehind journal terms s (unwritten s) t

-- ---- over one device

-- a run in which the device took these lines, and then, if it failed, some first bytes of the lines that
-- aren't written. A device that hasn't failed took each line whole, and one that had failed before takes none
pub record RunsOver {L : Type 0} (lasts : LastingDevice L) (journal : Bool) (terms : DispatcherTerms)
    (s : EngineState) (before : L) (t : EngineState) (after : L) : Type 0
  where
    pub bytes : List ℕ
    pub runs : RunsBehind journal terms s bytes t
    pub torn : List ℕ
    pub more : List ℕ
    pub torn_is : unwritten t ≡ torn ++ more
    pub takes : TakesBytes lasts before after (bytes ++ torn)
    pub whole : lasts.failed after ≡ false → torn ≡ []
    pub stays : lasts.failed before ≡ true → (bytes ≡ []) × (torn ≡ []) × (lasts.failed after ≡ true)

-- a run in which the device took nothing leaves it as it was
abbrev pub OthersAreOver : {L : Type 0} → LastingDevice L → Type 0
OthersAreOver {L} lasts = (journal : Bool) (terms : DispatcherTerms) (s t : EngineState) (device : L)
    → RunsBehind journal terms s [] t → RunsOver lasts journal terms s device t device

-- runs over one device, one after another, are one
abbrev pub OversAreJoined : {L : Type 0} → LastingDevice L → Type 0
OversAreJoined {L} lasts = (journal : Bool) (terms : DispatcherTerms) (s t u : EngineState)
    (before between after : L)
    → RunsOver lasts journal terms s before t between → RunsOver lasts journal terms t between u after
    → RunsOver lasts journal terms s before u after

-- the lines of the account are written to it
abbrev pub WrittenLinesAreOver : {L : Type 0} → LastingDevice L → Type 0
WrittenLinesAreOver {L} lasts = (journal : Bool) (terms : DispatcherTerms) (s t : EngineState)
    (before after : L) (now : ℕ) (made : List Entry) (told : Option ℕ)
    → TakesBytes lasts before after (unwritten s) → HasWorked lasts before after
    → TellsWritten journal terms (all_gone s) now made told t
    → RunsOver lasts journal terms s before t after

-- or they aren't all written
abbrev pub UnwrittenLinesAreOver : {L : Type 0} → LastingDevice L → Type 0
UnwrittenLinesAreOver {L} lasts = (journal : Bool) (terms : DispatcherTerms) (s t : EngineState)
    (before after : L) (why : EngineFault) → IsNotTold lasts s before why t after
    → RunsOver lasts journal terms s before t after

-- an engine behind sockets, over a device
pub record RunsOnDevice {S L : Type 0} (lasts : LastingDevice L) (old : Switchboard S) (before : L)
    (new : Switchboard S) (after : L) : Type 0
  where
    pub terms : SameTerms old new
    pub over : RunsOver lasts old.engine.hub.has_journal (hub_terms old.engine.hub)
        (engine_state old.engine) before (engine_state new.engine) after

-- over the device of its account, if one is kept; if not, no line is written
abbrev pub RunsWith : {S L : Type 0} → LastingDevice L → Switchboard S → Option L → Switchboard S → Option L
    → Type 0
RunsWith lasts old None new None = OnlyCalls old new
RunsWith lasts old None new (Some after) = ⊥
RunsWith lasts old (Some before) new None = ⊥
RunsWith lasts old (Some before) new (Some after) = RunsOnDevice lasts old before new after
