-- An event that the hub took, and what is done after it.
use Rattle.std.proofs.Common.{◌≡◌, ◌∙◌, ℕ, [], drop, string_bytes, subst, sym}
use Rattle.rv_hub.specs.declared.events.HubEvent.{HubEvent}
use Rattle.rv_hub.specs.declared.parts.HubParts.{HubParts}
use Rattle.rv_hub.specs.dispatcher.Runs.{ListsChanged}
use Rattle.rv_hub.specs.dispatcher.View.{begun}
use Rattle.rv_hub.specs.Hubs.{hub_state, hub_terms}
use Rattle.rv_hub.specs.Turns.{TakesEvent, TakesPiece}
use Rattle.rv_engine.specs.declared.parts.EngineParts.{EngineParts}
use Rattle.rv_engine.specs.Engines.{IsEngine, engine_state}
use Rattle.rv_engine.specs.Handing.{HandsOn, TellsStored}
use Rattle.rv_engine.specs.Noting.{HasTaken, NotesEvent}
use Rattle.rv_engine.proofs.Gathered.{gathers_made}

-- the hub alone has changed
pub has_taken : (e : EngineParts) (h : HubParts) → IsEngine e → h.has_journal ≡ e.hub.has_journal
    → HasTaken (record e { hub = h })
has_taken e h sound keeps = record {
  looks = sound.looks;
  round = sound.round;
  room = sound.room;
  account = keeps ∙ sound.account;
  no_lines = λ none. (sound.nothing none).lines;
}

-- where no entry was left the event is handed on
pub handed_on : (e : EngineParts) (h : HubParts) (new : EngineParts) (handed : ℕ) (what : HubEvent)
    (given : ℕ) → IsEngine e → (engine_state e).left ≡ [] → TellsStored what e.stored
    → TakesEvent e.hub.has_journal (hub_terms e.hub) (hub_state e.hub) handed what
    h.dispatcher.entries.items given (hub_state h)
    → TakesPiece what given (hub_state h) → ListsChanged (begun (hub_state e.hub)) (hub_state h)
    → new.hub ≡ h → NotesEvent (record e { hub = h }) new
    → HandsOn e.hub.has_journal (hub_terms e.hub) (engine_state e) handed what
    new.hub.dispatcher.entries.items given (engine_state new)
handed_on e h new handed what given sound none tells takes piece listed same notes = record {
  tells = tells;
  takes = subst (λ (x : HubParts). TakesEvent e.hub.has_journal (hub_terms e.hub) (hub_state e.hub) handed
      what x.dispatcher.entries.items given (hub_state x)) (sym same) takes;
  stored = notes.stored;
  gathers = gathers_made e.hub.has_journal e.has_account new.hub.dispatcher.entries.items
      (engine_state e).left (drop new.gathered new.hub.dispatcher.entries.items) (string_bytes e.lines)
      (string_bytes new.lines) sound.account none notes.gathers;
  piece = subst (λ (x : HubParts). TakesPiece what given (hub_state x)) (sym same) piece;
  listed = subst (λ (x : HubParts). ListsChanged (begun (hub_state e.hub)) (hub_state x)) (sym same) listed;
  looks = record { looks = notes.looks.looks; round = notes.looks.round; room = notes.looks.room };
}
