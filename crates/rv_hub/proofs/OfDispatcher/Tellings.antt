-- Whoever waits is told one after another: what each telling adds to those before it.
use Rattle.std.proofs.Common.{◌≡◌, ◌∙◌, ◌++◌, ◌∷◌, ℕ, List, [], None, refl, sym, ap, subst}
use Rattle.std.proofs.Common.{arith, append_assoc}
use Rattle.std.proofs.lemmas.List.{append-nil}
use Rattle.std.proofs.lemmas.Grind.{flat_map-append}
use Rattle.rv_server_connections.specs.subscribers.Subscription.{SubscribesTo, IsFirstSubscriber}
use Rattle.rv_server_connections.specs.subscribers.Subscription.{SetsSubscription}
use Rattle.rv_hub.specs.declared.dispatcher.Dispatcher.{Dispatcher}
use Rattle.rv_hub.specs.dispatcher.View.{DispatcherState, DispatcherTerms}
use Rattle.rv_hub.specs.dispatcher.Effects.{Effect, Does, told_of_effect, told_in_effects, Closed, Told}
use Rattle.rv_hub.specs.dispatcher.Order.{TellsOneSubscriber}
use Rattle.rv_hub.specs.dispatcher.Fields.{dispatcher_state, dispatcher_terms}
use Rattle.rv_hub.specs.dispatcher.Going.{GoesTelling, TellsClient, TellsIt, TellsIts}
use Rattle.rv_hub.proofs.OfDispatcher.Rows.{row_first, row_nobody}

-- ---- one

-- whoever is told, or closed, waits no more
pub tells_sets : (terms : DispatcherTerms) (old new : DispatcherState) (connection : ℕ) (effect : Effect)
    → TellsOneSubscriber connection effect
    → Does terms old effect new → SetsSubscription old.hears connection None new.hears
tells_sets terms old new connection (Told n key said) same does =
    subst (λ m. SetsSubscription old.hears m None new.hears) same does.hears
tells_sets terms old new connection (Closed n) same does =
    subst (λ m. SetsSubscription old.hears m None new.hears) same does.hears
tells_sets terms old new connection effect tells does = absurd tells

tells_first : (terms : DispatcherTerms) (old between final : DispatcherState) (client connection : ℕ)
    (effect : Effect)
    (rest : List Effect) → IsFirstSubscriber old.hears client connection
    → TellsOneSubscriber connection effect
    → Does terms old effect between → TellsClient terms between client rest final
    → TellsClient terms old client (effect ∷ rest) final
tells_first terms old between final client connection effect rest first tells does more = record {
  row = connection ∷ more.row;
  subscribers = row_first old.hears between.hears client connection more.row first
      (tells_sets terms old between connection effect tells does) more.subscribers;
  each = (tells, more.each);
  does = (between, does, more.does);
}

-- ---- what goes on beside

pub goes_none : (d : Dispatcher) → GoesTelling d [] d
goes_none d = record { rest = refl; freed = sym (append-nil d.freed.items); work = omega arith }

pub goes_on : (one two three : Dispatcher) (first second : List Effect) → GoesTelling one first two
    → GoesTelling two second three → GoesTelling one (first ++ second) three
goes_on one two three first second before behind =
    let less = before.work in
    let lesser = behind.work in
    record {
      rest = behind.rest
          ∙ ap (λ (d : Dispatcher). record d {
            wires = three.wires;
            subscribers = three.subscribers;
            freed =
                three.freed;
          }) before.rest;
      freed = behind.freed ∙ ap (λ l. l ++ told_in_effects second) before.freed
          ∙ append_assoc one.freed.items (told_in_effects first) (told_in_effects second)
          ∙ ap (λ l. one.freed.items ++ l) (sym (flat_map-append told_of_effect first second));
      work = omega arith;
    }

pub same_terms : (old new : Dispatcher) (effects : List Effect) → GoesTelling old effects new
    → dispatcher_terms new ≡ dispatcher_terms old
same_terms old new effects goes = ap dispatcher_terms goes.rest

-- ---- all of a client

-- those that were told so far, and what it takes that all are
pub record TellsSoFar (old : Dispatcher) (client : ℕ) (now : Dispatcher) : Type 0 where
  pub done : List Effect
  pub goes : GoesTelling old done now
  pub leads : (rest : List Effect) (final : DispatcherState)
      → TellsClient (dispatcher_terms old) (dispatcher_state now) client rest final
      → TellsClient (dispatcher_terms old) (dispatcher_state old) client (done ++ rest) final

pub tells_none : (d : Dispatcher) (client : ℕ) → TellsSoFar d client d
tells_none d client = record { done = []; goes = goes_none d; leads = λ rest final tells. tells }

pub tells_next : (old now new : Dispatcher) (client connection : ℕ) → TellsSoFar old client now
    → IsFirstSubscriber (dispatcher_state now).hears client connection → TellsIt now connection new
    → TellsSoFar old client new
tells_next old now new client connection far first it =
    let does = subst (λ (terms : DispatcherTerms). Does terms (dispatcher_state now) it.effect
    (dispatcher_state new))
    (same_terms old now far.done far.goes) it.does in
    record {
      done = far.done ++ it.effect ∷ [];
      goes = goes_on old now new far.done (it.effect ∷ []) far.goes it.goes;
      leads = λ rest final tells.
          subst (λ l. TellsClient (dispatcher_terms old) (dispatcher_state old) client l final)
          (sym (append_assoc far.done (it.effect ∷ []) rest))
          (far.leads (it.effect ∷ rest) final
          (tells_first (dispatcher_terms old) (dispatcher_state now) (dispatcher_state new) final client
          connection it.effect rest
          first
          it.tells does tells));
    }

pub tells_all : (old new : Dispatcher) (client : ℕ) → TellsSoFar old client new
    → ((connection : ℕ) → ¬ SubscribesTo (dispatcher_state new).hears client connection)
    → TellsIts old client new
tells_all old new client far none = record {
  effects = far.done;
  tells = subst (λ l. TellsClient (dispatcher_terms old) (dispatcher_state old) client l
      (dispatcher_state new))
      (append-nil far.done)
      (far.leads [] (dispatcher_state new) (record {
        row = [];
        subscribers = row_nobody (dispatcher_state new).hears client none;
        each = refl;
        does = refl;
      }));
  goes = far.goes;
}
