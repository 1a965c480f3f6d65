-- An event as a whole, from its parts.
use Rattle.std.proofs.Common.{◌≡◌, ◌∙◌, ℕ, List, Option}
use Rattle.std.proofs.Common.{sym, subst}
use Rattle.std.proofs.Common.{Bool, Err, IfErr, OnErr, Ok, Result, option_to_list}
use Rattle.std.specs.Prelude.{IsErrAnd}
use Rattle.std.specs.Option.{unwrap_or}
use Rattle.rv_account.specs.declared.entry.Entry.{Entry}
use Rattle.rv_hub.specs.declared.dispatcher.Dispatcher.{Dispatcher}
use Rattle.rv_hub.specs.dispatcher.View.{DispatcherState, DispatcherTerms, begun}
use Rattle.rv_hub.specs.dispatcher.Effects.{DoesAll}
use Rattle.rv_hub.specs.dispatcher.Rest.{HasComeToStop}
use Rattle.rv_hub.specs.dispatcher.Runs.{ListsChanged}
use Rattle.rv_hub.specs.dispatcher.Fields.{dispatcher_state, dispatcher_terms}
use Rattle.rv_hub.proofs.OfDispatcher.Listing.{effects_are_listed}
use Rattle.rv_hub.specs.declared.events.EventRefusal.{EventRefusal}
use Rattle.rv_hub.specs.declared.events.HubEvent.{HubEvent}
use Rattle.rv_hub.specs.Events.{EventCan}
use Rattle.rv_hub.specs.EventEffects.{event_effects}
use Rattle.rv_hub.specs.Turns.{EventGoesOn, IsAtRest, TakesEvent, goes_on_first, last_effects}
use Rattle.rv_hub.specs.Turns.{offer_in, own_effects}
use Rattle.rv_hub.specs.Steps.{ActsOwn, IsGoing, RunsOn}
use Rattle.rv_hub.proofs.Longer.{IsWithin}
use Rattle.rv_hub.proofs.Owning.{own_going}
use Rattle.rv_hub.proofs.Resting.{can_begun, gives_it, within_behind}
use Rattle.rv_hub.proofs.Whole.{event_does}

-- ---- where no connection has changed yet

rest_begun : (journal : Bool) (s : DispatcherState) → IsAtRest journal s → IsAtRest journal (begun s)
rest_begun journal s rest = record {
  stopped = rest.stopped;
  subscribers_owe = rest.subscribers_owe;
  owers_hear = rest.owers_hear;
  waits = rest.waits;
  in_time = rest.in_time;
  written = rest.written;
  all_written = rest.all_written;
}

-- after an event that is refused
pub rest_same : (journal : Bool) (s t : DispatcherState) → t ≡ begun s → IsAtRest journal s
    → IsAtRest journal t
rest_same journal s t same rest = subst (IsAtRest journal) (sym same) (rest_begun journal s rest)

-- ---- an event that is taken

pub can_still : (s t : DispatcherState) (what : HubEvent) → t ≡ begun s → EventCan s what → EventCan t what
can_still s t what same can =
    subst (λ (u : DispatcherState). EventCan u what) (sym same) (can_begun s what can)

pub going_on : (journal : Bool) (s : DispatcherState) (begins acts : Dispatcher) (what : HubEvent) (opened :
    Option ℕ)
    → IsAtRest journal s → dispatcher_state begins ≡ begun s → ActsOwn begins what opened acts
    → IsGoing (dispatcher_state acts) (option_to_list (goes_on_first what))
going_on journal s begins acts what opened rest same own =
    own_going (dispatcher_terms begins) (dispatcher_state begins) (dispatcher_state acts) what own.number
    (λ c. subst (λ (t : DispatcherState). HasComeToStop t c) (sym same) (rest.stopped c)) own.does

pub within_on : (journal : Bool) (s : DispatcherState) (begins acts runs : Dispatcher) (what : HubEvent)
    (opened :
    Option ℕ)
    (handed taken : ℕ) → IsAtRest journal s → dispatcher_state begins ≡ begun s
    → ActsOwn begins what opened acts
    → RunsOn acts handed what (offer_in what) taken runs → IsWithin (dispatcher_state runs)
within_on journal s begins acts runs what opened handed taken rest same own goes =
    within_behind begins acts runs what opened handed taken (subst IsWithin (sym same) rest.written) own goes

pub takes_it : (journal : Bool) (before begins acts runs writes : Dispatcher) (handed : ℕ) (what : HubEvent)
    (opened : Option ℕ) (taken result : ℕ) → dispatcher_state begins ≡ begun (dispatcher_state before)
    → dispatcher_terms begins ≡ dispatcher_terms before → EventCan (dispatcher_state before) what
    → ActsOwn begins what opened acts
    → dispatcher_terms acts ≡ dispatcher_terms begins → RunsOn acts handed what (offer_in what) taken runs
    → DoesAll (dispatcher_terms runs) (dispatcher_state runs) (last_effects journal (dispatcher_state runs))
    (dispatcher_state writes)
    → writes.entries.items ≡ runs.entries.items → result ≡ unwrap_or opened taken
    → TakesEvent journal (dispatcher_terms before) (dispatcher_state before) handed what writes.entries.items
    result
    (dispatcher_state writes)
takes_it journal before begins acts runs writes handed what opened taken result same terms can own kept goes
    last
    entries is =
    let at_acts : dispatcher_terms acts ≡ dispatcher_terms before = kept ∙ terms in
    let at_runs : dispatcher_terms runs ≡ dispatcher_terms before = goes.terms ∙ at_acts in
    record {
      can = can;
      number = own.number;
      after_own = dispatcher_state acts;
      own = subst (λ (t : DispatcherTerms). DoesAll t (begun (dispatcher_state before))
          (own_effects what own.number)
          (dispatcher_state acts)) terms
          (subst (λ (s : DispatcherState). DoesAll (dispatcher_terms begins) s (own_effects what own.number)
          (dispatcher_state acts)) same
          own.does);
      taken = taken;
      after_turns = dispatcher_state runs;
      goes_on = subst (λ (t : DispatcherTerms). EventGoesOn t (dispatcher_state acts) handed what
          writes.entries.items
          taken
          (dispatcher_state runs)) at_acts
          (subst (λ es. EventGoesOn (dispatcher_terms acts) (dispatcher_state acts) handed what es taken
          (dispatcher_state runs)) (sym entries)
          goes.goes);
      last = subst (λ (t : DispatcherTerms). DoesAll t (dispatcher_state runs) (last_effects journal
          (dispatcher_state runs))
          (dispatcher_state writes)) at_runs last;
      gives = gives_it what own.number taken result opened own.opened_is is;
    }

-- whoever isn't listed has the bytes that it had
pub listed_it : (journal : Bool) (terms : DispatcherTerms) (s : DispatcherState) (handed : ℕ) (what :
    HubEvent)
    (made : List Entry) (result : ℕ) (t : DispatcherState)
    → TakesEvent journal terms s handed what made result t
    → ListsChanged (begun s) t
listed_it journal terms s handed what made result t takes =
    effects_are_listed terms (event_effects journal terms s handed what made result t takes) (begun s) t
    (event_does journal terms s handed what made result t takes).does

-- ---- the ways out where it is refused

pub refused_by : (So : EventRefusal → Type 0) (r : Result ℕ EventRefusal) (why : EventRefusal) → So why
    → IsErrAnd r (λ e. e ≡ why) → IfErr r So
refused_by So (Ok n) why refused is = absurd is
refused_by So (Err e) why refused is = subst So (sym is) refused

pub on_err : (r : Result ℕ EventRefusal) (P : Type 0) → P → OnErr r P
on_err (Ok n) P holds = tt
on_err (Err e) P holds = holds
