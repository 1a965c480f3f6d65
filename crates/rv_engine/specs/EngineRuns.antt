-- Calls of an engine, one after another: to the hub, the run of exactly the events that were handed on, and
-- to the account, the lines of all entries that these made, in order.
use Rattle.std.specs.Prelude.{ℕ, ◌≡◌, ◌≤◌, ◌+◌, Bool, true, List, [], ◌∷◌, ◌++◌, Some, length}
use Rattle.std.specs.List.{All}
use Rattle.rv_account.specs.declared.entry.Entry.{Entry}
use Rattle.rv_account.specs.Account.{Account}
use Rattle.rv_account.specs.Limits.{max_moment}
use Rattle.rv_account.specs.rules.StepLimits.{AreStepLimits}
use Rattle.rv_book.specs.lines.Lines.{printed_lines}
use Rattle.rv_book.specs.lines.Written.{account_lines}
use Rattle.rv_server_connections.specs.connection.History.{given_bytes}
use Rattle.rv_server_connections.specs.connection.Traffic.{AnswerByte, Traffic, bytes_of}
use Rattle.rv_hub.specs.dispatcher.View.{DispatcherTerms}
use Rattle.rv_hub.specs.declared.events.HubEvent.{HubEvent}
use Rattle.rv_hub.specs.EventEffects.{all_effects}
use Rattle.rv_hub.specs.HandedOut.{ArePublic}
use Rattle.rv_hub.specs.HubRuns.{AddsEntries, HubAnswer, IsHubAccount, RefusedEvent, RunsHub, TookEvent}
use Rattle.rv_hub.specs.HubRuns.{made_in, run_effects}
use Rattle.rv_hub.specs.Pasts.{HasPast, Past, past_after}
use Rattle.rv_engine.specs.declared.events.EngineFault.{EngineFault}
use Rattle.rv_engine.specs.declared.events.EngineFault.TheVariants as fault
use Rattle.rv_engine.specs.Engines.{EngineState}
use Rattle.rv_engine.specs.Handing.{Gathers, GathersFront, HandsOn, IsRefused, StoresLines, entries_kept}
use Rattle.rv_engine.specs.Handing.{entry_lines, gathered_count, unwritten}

-- what came of an event, or of lines
pub data EngineEffect : Type 0 where
  -- the event was handed on at a moment and taken, made these entries and gave this
  HandedOn : (handed : ℕ) (what : HubEvent) (made : List Entry) (given : ℕ) → EngineEffect
  -- it wasn't taken
  NotTaken : (what : HubEvent) (why : EngineFault) → EngineEffect
  -- lines of entries were gathered
  GatheredLines : EngineEffect
  -- the device took all lines that are gathered, which are these bytes, and so the lines of so many entries
  -- in all
  StoredLines : (bytes : List ℕ) (entries : ℕ) → EngineEffect
  -- other connections are to be looked at
  Looked : EngineEffect

-- nothing changed but which connections are to be looked at
pub record ChangesLooks (s t : EngineState) : Type 0 where
  pub hub : t.hub ≡ s.hub
  pub lines : t.lines ≡ s.lines
  pub left : t.left ≡ s.left
  pub stored : t.stored ≡ s.stored

abbrev pub DoesEffect : Bool → DispatcherTerms → EngineState → EngineEffect → EngineState → Type 0
DoesEffect journal terms s (HandedOn handed what made given) t = HandsOn journal terms s handed what made
    given
    t
DoesEffect journal terms s (NotTaken what why) t = IsRefused s what why t
DoesEffect journal terms s GatheredLines t = Gathers s t
DoesEffect journal terms s (StoredLines bytes entries) t = StoresLines s bytes entries t
DoesEffect journal terms s Looked t = ChangesLooks s t

abbrev pub RunsEngine : Bool → DispatcherTerms → EngineState → List EngineEffect → EngineState → Type 0
RunsEngine journal terms s [] t = t ≡ s
RunsEngine journal terms s (effect ∷ effects) t =
    (between : EngineState) × DoesEffect journal terms s effect between × RunsEngine journal terms between
    effects t

-- what came of the events that were handed on
abbrev pub answers_in : List EngineEffect → List HubAnswer
answers_in [] = []
answers_in (HandedOn handed what made given ∷ effects) = TookEvent handed what made given ∷ answers_in effects
answers_in (NotTaken what (fault.Refused why) ∷ effects) = RefusedEvent ∷ answers_in effects
answers_in (NotTaken what fault.NoMemory ∷ effects) = answers_in effects
answers_in (NotTaken what (fault.NotWritten why) ∷ effects) = answers_in effects
answers_in (GatheredLines ∷ effects) = answers_in effects
answers_in (StoredLines bytes entries ∷ effects) = answers_in effects
answers_in (Looked ∷ effects) = answers_in effects

-- all bytes of lines that the device took, in order
abbrev pub bytes_written : List EngineEffect → List ℕ
bytes_written [] = []
bytes_written (HandedOn handed what made given ∷ effects) = bytes_written effects
bytes_written (NotTaken what why ∷ effects) = bytes_written effects
bytes_written (GatheredLines ∷ effects) = bytes_written effects
bytes_written (StoredLines bytes entries ∷ effects) = bytes ++ bytes_written effects
bytes_written (Looked ∷ effects) = bytes_written effects

-- After a run the hub is that of the events that were handed on, in order. Take the entries that were left
-- before and those that these events made, where an account is kept: the first of them have their lines
-- written or gathered, in order, and the others are left.
pub record IsEngineRun (journal : Bool) (terms : DispatcherTerms) (s : EngineState) (effects :
    List EngineEffect)
    (t : EngineState) : Type 0
  where
    pub hub : RunsHub journal terms s.hub (answers_in effects) t.hub
    pub account : GathersFront (s.left ++ entries_kept journal (made_in (answers_in effects))) s.lines t.left
        (bytes_written effects ++ t.lines)

abbrev pub EnginesAreRuns : Type 0
EnginesAreRuns = (journal : Bool) (terms : DispatcherTerms) (effects : List EngineEffect) (s t : EngineState)
    → RunsEngine journal terms s effects t → IsEngineRun journal terms s effects t

-- ---- the account, if one is kept, from an engine on for which all is written

pub record IsAllWritten (s : EngineState) : Type 0 where
  pub lines : s.lines ≡ []
  pub left : s.left ≡ []

-- what is written and gathered are the lines of a front of the entries: of all, if none is left
pub record AreCounted (s : EngineState) (made : List Entry) (bytes : List ℕ) (t : EngineState) : Type 0 where
  pub gathers : GathersFront made [] t.left (bytes ++ t.lines)
  pub count : gathered_count t ≡ s.hub.book.length + length gathers.front

abbrev pub WrittenAreCounted : Type 0
WrittenAreCounted = (terms : DispatcherTerms) (effects : List EngineEffect) (s t : EngineState)
    → RunsEngine true terms s effects t → IsAllWritten s
    → AreCounted s (made_in (answers_in effects)) (bytes_written effects) t

-- after the lines of a legal account, the written lines and those still unwritten are those of a legal
-- account, whose state the hub has
pub record KeepsAccount (a : Account) (bytes : List ℕ) (t : EngineState) (made : List Entry) : Type 0 where
  pub after : Account
  pub adds : AddsEntries a made after
  pub is : IsHubAccount after t.hub
  pub text : printed_lines (account_lines after) ≡ printed_lines (account_lines a) ++ (bytes ++ unwritten t)

abbrev pub AccountsAreKept : Type 0
AccountsAreKept = (terms : DispatcherTerms) (effects : List EngineEffect) (s t : EngineState) (a : Account)
    → AreStepLimits terms.limits → RunsEngine true terms s effects t → IsAllWritten s
    → t.hub.now ≤ max_moment → IsHubAccount a s.hub
    → KeepsAccount a (bytes_written effects) t (made_in (answers_in effects))

-- ---- what is told as written was stored

-- an engine for which all is written, and whose hub was told of no more
pub record BeginsStored (s : EngineState) : Type 0 where
  pub all : IsAllWritten s
  pub stored : s.stored ≡ s.hub.book.length
  pub told : s.hub.open_wires.written ≤ s.hub.book.length

-- the device took the lines of a front of these entries, in order, and so many are stored; and the hub was
-- told of no more
pub record AreStored (s : EngineState) (made : List Entry) (bytes : List ℕ) (t : EngineState) : Type 0 where
  pub front : List Entry
  pub behind : List Entry
  pub parts : made ≡ front ++ behind
  pub lines : bytes ≡ entry_lines front
  pub count : t.stored ≡ s.hub.book.length + length front
  pub told : t.hub.open_wires.written ≤ t.stored

abbrev pub ToldIsStored : Type 0
ToldIsStored = (terms : DispatcherTerms) (effects : List EngineEffect) (s t : EngineState)
    → RunsEngine true terms s effects t → BeginsStored s
    → AreStored s (made_in (answers_in effects)) (bytes_written effects) t

-- what left of a connection, and what may leave, are the first bytes of its answers, and only of those that
-- rest on entries that are stored
pub record LeavesStored (stored : ℕ) (past : Past) (wire : Traffic) : Type 0 where
  pub left : List ℕ
  pub sent : length left ≡ past.sent
  pub front : List AnswerByte
  pub parts : given_bytes past.answers ≡ front ++ wire.behind
  pub rests : All (λ b. b.rests_on ≤ stored) front
  pub leaves : bytes_of front ≡ left ++ wire.ready

-- and each answer is public in the account of the entries that it rests on
pub record LeftIsPublic (a : Account) (made : List Entry) (past : Past) (n : ℕ) (t : EngineState) : Type 0
  where
    pub after : Account
    pub adds : AddsEntries a made after
    pub public : ArePublic after past
    pub leaves : (wire : Traffic) → t.hub.open_wires.wires n ≡ Some wire → LeavesStored t.stored past wire

abbrev pub LeftIsStored : Type 0
LeftIsStored = (terms : DispatcherTerms) (effects : List EngineEffect) (s t : EngineState) (a : Account)
    → AreStepLimits terms.limits → RunsEngine true terms s effects t → BeginsStored s
    → t.hub.now ≤ max_moment → IsHubAccount a s.hub
    → (run : RunsHub true terms s.hub (answers_in effects) t.hub)
    → (n : ℕ) (past : Past) → HasPast s.hub n past → ArePublic a past
    → LeftIsPublic a (made_in (answers_in effects)) (past_after n past s.hub.book.length
    (all_effects (run_effects true terms (answers_in effects) s.hub t.hub run))) n t

-- ---- want of memory

-- if no entry is left, the next event is handed on: it isn't refused for want of memory for earlier lines
abbrev pub HandsOnNext : Type 0
HandsOnNext = (old new : EngineState) (what : HubEvent) → old.left ≡ []
    → ¬ IsRefused old what fault.NoMemory new
