-- The socket of one number, and what is told of it.
use Rattle.std.proofs.Common.{◌≡◌, ◌∙◌, ℕ, Bool, List, [], None, Option, Some, ap, false}
use Rattle.std.proofs.Common.{refl, sym}
use Rattle.std.proofs.Common.{IsSome, slice_set, subst}
use Rattle.std.proofs.lemmas.List.{set-get_or, set-set}
use Rattle.std.specs.Io.KnownBytes.{Consumes, Keeps}
use Rattle.rv_server_connections.specs.connection.Traffic.{Traffic}
use Rattle.rv_server_connections.specs.Connections.{HasWire}
use Rattle.rv_hub.specs.dispatcher.View.{DispatcherState, DispatcherTerms}
use Rattle.rv_account.specs.declared.entry.Entry.{Entry}
use Rattle.rv_hub.specs.declared.events.HubEvent.{HubEvent}
use Rattle.rv_hub.specs.declared.parts.HubParts.{HubParts}
use Rattle.rv_hub.specs.Hubs.{hub_state, hub_terms}
use Rattle.rv_engine.specs.Engines.{EngineState}
use Rattle.rv_engine.specs.Handing.{Gathers, HandsOn}
use Rattle.rv_engine.proofs.Through.{handed_through}
use Rattle.rv_traffic.specs.declared.links.link.Socket.{Socket}
use Rattle.rv_traffic.specs.links.Table.{ChangesOne, link_at}
use Rattle.rv_traffic.specs.Calls.{GivesUp, Hands, MayBeOffered, TellsGone}
use Rattle.rv_traffic.specs.Views.{TrafficState}

-- what is found in a hub's table
pub open_at : (h same : HubParts) (n : ℕ) (o : Option Traffic) → same ≡ h
    → o ≡ (hub_state same).open_wires.wires n → (hub_state h).open_wires.wires n ≡ o
open_at h same n o is found =
    sym (found ∙ ap (λ (x : HubParts). (hub_state x).open_wires.wires n) is)

-- known bytes of which none came, or went
pub consumes_none : (known : Option (List ℕ)) → Consumes known known []
consumes_none None = tt
consumes_none (Some bytes) = refl

pub keeps_same : (known : Option (List ℕ)) → Keeps known known
keeps_same None = tt
keeps_same (Some bytes) = refl

-- an event after a gathering
pub hands_through : (first hub : HubParts) (old mid : EngineState) (now : ℕ) (what : HubEvent)
    (made : List Entry) (given : ℕ) (new : EngineState) → Gathers old mid → hub ≡ first
    → HandsOn hub.has_journal (hub_terms hub) mid now what made given new
    → Hands first.has_journal (hub_terms first) old now what given new
hands_through first hub old mid now what made given new gathers same does = record {
  made = made;
  hands = handed_through first.has_journal (hub_terms first) old mid now what made given new gathers
      (subst (λ (h : HubParts). HandsOn h.has_journal (hub_terms h) mid now what made given new) same does);
}

-- a connection that may be offered more has not ended its input
pub may_end : (s : DispatcherState) (n : ℕ) → MayBeOffered s n
    → HasWire s.open_wires n (λ wire. wire.ended ≡ false)
may_end s n may = record { wire = may.wire; there = may.there; so = may.so.open_input }

module _ {S : Type 0} where
  pub one_then : (old mid new : List (Option (Socket S))) (n : ℕ) → ChangesOne old n mid
      → ChangesOne mid n new
      → ChangesOne old n new
  one_then old mid new n first second =
      second ∙ ap (λ (l : List (Option (Socket S))). slice_set l n (link_at new n)) first
      ∙ set-set old n (link_at mid n) (link_at new n)

  -- where its socket is as it was, all are
  pub none_changed : (old new : List (Option (Socket S))) (n : ℕ) → ChangesOne old n new
      → link_at new n ≡ link_at old n → new ≡ old
  none_changed old new n changes same =
      changes ∙ ap (λ (o : Option (Socket S)). slice_set old n o) same ∙ set-get_or old n None

  -- a connection is given up after another call of its number
  pub gives_up_then : (journal : Bool) (terms : DispatcherTerms) (now n : ℕ) (old mid new : TrafficState S)
      → mid.engine ≡ old.engine → ChangesOne old.table n mid.table → GivesUp journal terms now n mid new
      → GivesUp journal terms now n old new
  gives_up_then journal terms now n old mid new same changes gives = record {
    link = record {
      none = gives.link.none;
      others = one_then old.table mid.table new.table n changes gives.link.others;
    };
    told = subst (λ (e : EngineState). TellsGone journal terms e now n new.engine) same gives.told;
  }

  -- the same terms
  pub gives_up_at : (journal same : Bool) (terms as_before : DispatcherTerms) (now n : ℕ) (old new :
      TrafficState S)
      → same ≡ journal → as_before ≡ terms → GivesUp same as_before now n old new
      → GivesUp journal terms now n old new
  gives_up_at journal same terms as_before now n old new keeps terms_keep gives =
      subst (λ (b : Bool). GivesUp b terms now n old new) keeps
      (subst (λ (t : DispatcherTerms). GivesUp same t now n old new) terms_keep gives)

  pub none_there : (o : Option (Socket S)) → (IsSome o → ⊥) → o ≡ None
  none_there None not = refl
  none_there (Some link) not = absurd (not refl)
