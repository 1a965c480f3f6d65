-- What one who is laid in a queue or at an exchanger is to all who wait, side by side.
use Rattle.rv_model_queues.proofs.Words.{◌≡◌, ◌∷◌, ◌++◌, ◌∙◌, ℕ, List, [], Option, Some, None, refl, sym, ap}
use Rattle.rv_model_queues.proofs.Words.{arith, length, subst, same_Some, Exchanges, Gives, Takes, OwedDuty}
use Rattle.rv_model_queues.proofs.Words.{place_of, places_of, FindsNobody, WaitQueues, place_of_duty}
use Rattle.rv_model_queues.proofs.Words.{queue_at, takers_places, waiting_on}
use Rattle.std.specs.Prelude.{map}
use Rattle.rv_dual.specs.Meanings.{ParksGiver, ParksTaker}
use Rattle.rv_dual.specs.Offers.{duty_of}
use Rattle.rv_model_queues.specs.Laying.{LaidOn, MayWaitBy, offer_with}
use Rattle.rv_model_queues.specs.Views.{exchanger_at}
use Rattle.std.proofs.lemmas.List.{map-append}
use Rattle.rv_model_queues.proofs.Exchanging.{ExchangerChanged, nobody_there, others_stay, parked_at}
use Rattle.rv_model_queues.proofs.Pushed.{pushed_giver, pushed_taker}
use Rattle.rv_model_queues.proofs.Tabled.{ChangedAt, givers_change, no_givers, no_takers, parked_changed}
use Rattle.rv_model_queues.proofs.Tabled.{takers_change}

-- ---- nobody faces it

some_there : {X : Type 0} (x : X) (xs : List X) → x ∷ xs ≡ [] → ⊥
some_there x xs none = let long = ap length none in omega (arith, long)

empty_of : {X Y : Type 0} (f : X → Y) (xs : List X) → map f xs ≡ [] → xs ≡ []
empty_of f [] none = refl
empty_of f (x ∷ xs) none = absurd (some_there _ _ none)

pub takers_none : (wait_queues : WaitQueues) (queue : ℕ) → FindsNobody wait_queues (Gives queue)
    → (queue_at wait_queues.queues queue).takers ≡ []
takers_none wait_queues queue nobody = empty_of _ _ (nobody (Takes queue) refl)

pub givers_none : (wait_queues : WaitQueues) (queue : ℕ) → FindsNobody wait_queues (Takes queue)
    → (queue_at wait_queues.queues queue).givers ≡ []
givers_none wait_queues queue nobody = empty_of _ _ (nobody (Gives queue) refl)

free_of : (at : Option OwedDuty) → place_of_duty at ≡ [] → at ≡ None
free_of None none = refl
free_of (Some duty) none = absurd (some_there _ _ none)

pub exchanger_free : (wait_queues : WaitQueues) (exchanger : ℕ)
    → FindsNobody wait_queues (Exchanges exchanger)
    → exchanger_at wait_queues.exchangers exchanger ≡ None
exchanger_free wait_queues exchanger nobody = free_of _ (nobody (Exchanges exchanger) refl)

-- ---- in a queue

pub place_with : (queue place : ℕ) (duty : Option OwedDuty) → MayWaitBy (Gives queue) place duty
    → place_of (offer_with place duty) ≡ place
place_with queue place None may = refl
place_with queue place (Some duty) may = may

duty_with : (place : ℕ) (duty : Option OwedDuty) → duty_of (offer_with place duty) ≡ duty
duty_with place None = refl
duty_with place (Some duty) = refl

module _ (old new : WaitQueues) (queue : ℕ) (changed : ChangedAt old new queue) (place : ℕ) where
  pub laid_gives : (duty : Option OwedDuty) → MayWaitBy (Gives queue) place duty
      → ParksGiver (queue_at old.queues queue) (queue_at new.queues queue) (offer_with place duty)
      → LaidOn old new (Gives queue) place duty
  laid_gives duty may parks = record {
    waits = record {
      nobody = no_takers old queue parks.nobody;
      last = ap places_of parks.givers
          ∙ map-append place_of (queue_at old.queues queue).givers (offer_with place duty ∷ [])
          ∙ ap (λ p. waiting_on old (Gives queue) ++ p ∷ []) (place_with queue place duty may);
      others = givers_change old new queue changed parks.takers;
    };
    parked = λ owed parked is_owed. parked_changed old new queue changed owed parked
        (pushed_giver owed (queue_at old.queues queue) (queue_at new.queues queue) (offer_with place duty)
        (ap owed (place_with queue place duty may) ∙ is_owed ∙ sym (duty_with place duty)) parks.givers
        parks.takers);
  }

  pub laid_takes : (duty : OwedDuty) → duty.place ≡ place
      → ParksTaker (queue_at old.queues queue) (queue_at new.queues queue) duty
      → LaidOn old new (Takes queue) place (Some duty)
  laid_takes duty at parks = record {
    waits = record {
      nobody = no_givers old queue parks.nobody;
      last = ap takers_places parks.takers
          ∙ map-append (λ (d : OwedDuty). d.place) (queue_at old.queues queue).takers (duty ∷ [])
          ∙ ap (λ p. waiting_on old (Takes queue) ++ p ∷ []) at;
      others = takers_change old new queue changed parks.givers;
    };
    parked = λ owed parked is_owed. parked_changed old new queue changed owed parked
        (pushed_taker owed (queue_at old.queues queue) (queue_at new.queues queue) duty
        (ap owed at ∙ is_owed) parks.takers parks.givers);
  }

-- ---- at an exchanger

pub laid_exchanges : (old new : WaitQueues) (exchanger : ℕ) → ExchangerChanged old new exchanger → (place : ℕ)
    (duty : OwedDuty) → duty.place ≡ place → exchanger_at old.exchangers exchanger ≡ None
    → exchanger_at new.exchangers exchanger ≡ Some duty → LaidOn old new (Exchanges exchanger) place
    (Some duty)
laid_exchanges old new exchanger changed place duty at free waits = record {
  waits = record {
    nobody = nobody_there old new exchanger changed free;
    last = ap place_of_duty waits ∙ ap (λ p. p ∷ []) at
        ∙ ap (λ o. place_of_duty o ++ place ∷ []) (sym free);
    others = others_stay old new exchanger changed;
  };
  parked = λ owed parked is_owed. parked_at old new exchanger changed owed parked
      (λ other there. subst (λ (d : OwedDuty). owed d.place ≡ Some d) (same_Some _ _ (sym waits ∙ there))
      (ap owed at ∙ is_owed));
}
