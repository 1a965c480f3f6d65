-- An event that is handed on after a gathering.
use Rattle.std.proofs.Common.{◌≡◌, ◌∙◌, ◌++◌, ℕ, List, [], Bool, ap, append_assoc, arith, length}
use Rattle.std.proofs.Common.{length-append}
use Rattle.std.proofs.Common.{drop, subst, sym}
use Rattle.std.proofs.lemmas.List.{drop_all}
use Rattle.rv_account.specs.declared.entry.Entry.{Entry}
use Rattle.rv_hub.specs.dispatcher.Runs.{ListsChanged}
use Rattle.rv_hub.specs.dispatcher.View.{DispatcherState, DispatcherTerms, begun}
use Rattle.rv_hub.specs.declared.events.HubEvent.{HubEvent}
use Rattle.rv_hub.specs.Turns.{EventRefused, TakesEvent}
use Rattle.rv_engine.specs.declared.events.EngineFault.{EngineFault}
use Rattle.rv_engine.specs.declared.events.EngineFault.TheVariants as fault
use Rattle.rv_engine.specs.Engines.{EngineState}
use Rattle.rv_engine.specs.Handing.{AddsLooks, Gathers, GathersFront, HandsOn, IsRefused, LooksAt, SameLooks}
use Rattle.rv_engine.specs.Handing.{TellsStored, entries_kept, entry_lines, unwritten}
use Rattle.rv_engine.proofs.Gathered.{lines_append}

-- a gathering changes nothing of what is to be written
unwritten_same : (old mid : EngineState) → Gathers old mid → unwritten mid ≡ unwritten old
unwritten_same old mid gathers =
    ap (λ (l : List ℕ). l ++ entry_lines mid.left) gathers.gathers.gathered
    ∙ append_assoc old.lines (entry_lines gathers.gathers.front) (entry_lines mid.left)
    ∙ ap (λ (l : List ℕ). old.lines ++ l) (sym (lines_append gathers.gathers.front mid.left))
    ∙ ap (λ (l : List Entry). old.lines ++ entry_lines l) (sym gathers.gathers.parts)

looks_through : (old mid new : EngineState) (numbers : List ℕ) → SameLooks old mid → LooksAt mid numbers new
    → LooksAt old numbers new
looks_through old mid new numbers same looks = record {
  looks = subst (λ (l : List ℕ). AddsLooks old.room l numbers new.looks) same.looks
      (subst (λ (n : ℕ). AddsLooks n mid.looks numbers new.looks) same.room looks.looks);
  round = looks.round ∙ same.round;
  room = looks.room ∙ same.room;
}

pub handed_through : (journal : Bool) (terms : DispatcherTerms) (old mid : EngineState) (handed : ℕ)
    (what : HubEvent)
    (made : List Entry) (given : ℕ) (new : EngineState) → Gathers old mid
    → HandsOn journal terms mid handed what made given new
    → HandsOn journal terms old handed what made given new
handed_through journal terms old mid handed what made given new gathers does = record {
  tells = subst (λ (n : ℕ). TellsStored what n) gathers.stored does.tells;
  takes = subst (λ (h : DispatcherState). TakesEvent journal terms h handed what made given new.hub)
      gathers.hub
      does.takes;
  stored = does.stored ∙ gathers.stored;
  gathers = subst (λ (l : List ℕ). GathersFront (entries_kept journal made) l new.left new.lines)
      (unwritten_same old mid gathers) does.gathers;
  piece = does.piece;
  listed = subst (λ (h : DispatcherState). ListsChanged (begun h) new.hub) gathers.hub does.listed;
  looks = looks_through old mid new new.hub.changed gathers.looks does.looks;
}

pub refused_through : (old mid : EngineState) (what : HubEvent) (why : EngineFault) (new : EngineState)
    → Gathers old mid → mid.left ≡ [] → IsRefused mid what why new → IsRefused old what why new
refused_through old mid what (fault.Refused why) new gathers none is = record {
  refused = subst (λ (h : DispatcherState). EventRefused h what why) gathers.hub is.refused;
  hub = is.hub ∙ ap begun gathers.hub;
  left = is.left;
  lines = is.lines ∙ unwritten_same old mid gathers;
  stored = is.stored ∙ gathers.stored;
  looks = record {
    looks = is.looks.looks ∙ gathers.looks.looks;
    round = is.looks.round ∙ gathers.looks.round;
    room = is.looks.room ∙ gathers.looks.room;
  };
}
refused_through old mid what fault.NoMemory new gathers none is =
    let sum = ap length is.gathers.gathers.parts ∙ length-append is.gathers.gathers.front new.left in
    let zero_left : length mid.left ≡ 0 = ap length none in
    absurd (omega (arith, sum, zero_left, is.some))
refused_through old mid what (fault.NotWritten why) new gathers none is = absurd is

-- each field of a state that is written out
pub state_is : (s : EngineState) (hub : DispatcherState) (stored room : ℕ) → s.hub ≡ hub → s.lines ≡ []
    → s.left ≡ [] → s.stored ≡ stored → s.looks ≡ [] → s.round ≡ [] → s.room ≡ room
    → s ≡ record { hub = hub; lines = []; left = []; stored = stored; looks = []; round = []; room = room }
state_is s hub stored room at_hub lines left at_stored looks round at_room =
    ap (λ (x : DispatcherState). record s { hub = x }) at_hub
    ∙ ap (λ (x : List ℕ). record s { hub = hub; lines = x }) lines
    ∙ ap (λ (x : List Entry). record s { hub = hub; lines = []; left = x }) left
    ∙ ap (λ (x : ℕ). record s { hub = hub; lines = []; left = []; stored = x }) at_stored
    ∙ ap (λ (x : List ℕ). record s { hub = hub; lines = []; left = []; stored = stored; looks = x }) looks
    ∙ ap (λ (x : List ℕ). record s {
      hub = hub;
      lines = [];
      left = [];
      stored = stored;
      looks = [];
      round = x;
    }) round
    ∙ ap (λ (x : ℕ). record s {
      hub = hub;
      lines = [];
      left = [];
      stored = stored;
      looks = [];
      round = [];
      room = x;
    }) at_room

-- all entries are gathered
pub all_gathered : (same entries : List Entry) → same ≡ entries → drop (length same) entries ≡ []
all_gathered same entries own = drop_all (length same) entries (omega (arith, ap length own))
