-- What a change of one exchanger is to all who wait, side by side.
use Rattle.rv_model_queues.proofs.Words.{◌≡◌, ◌∷◌, ◌++◌, ◌∙◌, inl, inr, ℕ, zero, suc, List, [], Option, Some}
use Rattle.rv_model_queues.proofs.Words.{None, refl, sym, ap, subst, none-some, same_Some, Side, Exchanges}
use Rattle.rv_model_queues.proofs.Words.{Gives, Looks, Takes, Wait, OwedDuty, places_of, Arrived, Lasts}
use Rattle.rv_model_queues.proofs.Words.{ArrivedOn, FindsNobody, AreParked, IsParked, AllFree, SameWaitQueues}
use Rattle.rv_model_queues.proofs.Words.{WaitQueues, place_of_duty, queue_at, takers_places, waiting_on}
use Rattle.rv_model_queues.proofs.Words.{eqb_tells}
use Rattle.rv_dual.specs.Queue.{SameLists}
use Rattle.std.specs.Prelude.{IfNone, IfSome}
use Rattle.rv_swap.specs.Exchange.{LeavesExchanger, NotWaiting}
use Rattle.rv_model_queues.specs.Meeting.{Exchanged, LeftExchanger, SwappedNothing, SwappedWith, WaitsAlone}
use Rattle.rv_model_queues.specs.Views.{OnlyExchanger, exchanger_at}

-- ---- one exchanger

-- no other exchanger changed, and no queue
pub record ExchangerChanged (old new : WaitQueues) (exchanger : ℕ) : Type 0 where
  pub others : OnlyExchanger exchanger old.exchangers new.exchangers
  pub queues : new.queues ≡ old.queues

some_is_none : {X : Type 0} (x : X) → Some x ≡ None → ⊥
some_is_none x is = none-some x (sym is)

module _ (old new : WaitQueues) (exchanger : ℕ) (changed : ExchangerChanged old new exchanger) where
  abbrev before : Option OwedDuty
  before = exchanger_at old.exchangers exchanger

  abbrev after : Option OwedDuty
  after = exchanger_at new.exchangers exchanger

  -- all sides stay but that of the exchanger
  pub others_stay : (third : Side) → (third ≡ Exchanges exchanger → ⊥)
      → waiting_on new third ≡ waiting_on old third
  others_stay (Gives queue) apart = ap (λ l. places_of (queue_at l queue).givers) changed.queues
  others_stay (Takes queue) apart = ap (λ l. takers_places (queue_at l queue).takers) changed.queues
  others_stay (Looks queue) apart = refl
  others_stay (Exchanges other) apart = ap place_of_duty (changed.others other
      (λ is. apart (ap Exchanges is)))

  -- who is parked, where what is parked at the exchanger is
  pub parked_at : (owed : ℕ → Option OwedDuty) → AreParked owed old
      → ((duty : OwedDuty) → after ≡ Some duty → owed duty.place ≡ Some duty) → AreParked owed new
  parked_at owed parked here = record {
    queues = λ queue. subst (λ l. IsParked owed (queue_at l queue)) (sym changed.queues)
        (parked.queues queue);
    exchangers = λ other duty there. elim (eqb_tells other exchanger) [
      | inl is ↦ here duty (ap (exchanger_at new.exchangers) (sym is.1) ∙ there)
      | inr apart ↦ parked.exchangers other duty (sym (changed.others other apart.1) ∙ there)
    ];
  }

  nothing_changed : after ≡ before → SameWaitQueues old new
  nothing_changed same = record {
    queues = λ queue. subst (λ l. SameLists (queue_at old.queues queue) (queue_at l queue))
        (sym changed.queues) (record { givers = refl; takers = refl });
    exchangers = λ other. elim (eqb_tells other exchanger) [
      | inl is ↦ subst (λ n. exchanger_at new.exchangers n ≡ exchanger_at old.exchangers n) (sym is.1) same
      | inr apart ↦ changed.others other apart.1
    ];
  }

  pub nobody_there : before ≡ None → FindsNobody old (Exchanges exchanger)
  nobody_there none other opposes = subst (λ side. waiting_on old side ≡ []) (same_Some _ _ opposes)
      (ap place_of_duty none)

  -- ---- an arrival

  swapped : (wait : Wait) (duty : OwedDuty) (result : Arrived) → SwappedWith before after duty result
      → ArrivedOn old new (Exchanges exchanger) (Some wait) duty result
  swapped wait duty result swap = subst (ArrivedOn old new (Exchanges exchanger) (Some wait) duty)
      (sym swap.is) (record {
        meets = record {
          other = Exchanges exchanger;
          opposes = refl;
          first = ap place_of_duty swap.waited ∙ ap (λ o. swap.earlier.place ∷ place_of_duty o)
              (sym swap.left);
          others = others_stay;
        };
        own = (refl, λ is. absurd (some_is_none swap.earlier.place is));
        other = λ owed parked. sym (parked.exchangers exchanger swap.earlier swap.waited);
        parked = λ owed parked is_owed. parked_at owed parked (λ duty there. absurd
            (none-some duty (sym swap.left ∙ there)));
      })

  waits_alone : (wait : Wait) (duty : OwedDuty) (result : Arrived) → Lasts (Some wait)
      → WaitsAlone before after duty result → ArrivedOn old new (Exchanges exchanger) (Some wait) duty result
  waits_alone wait duty result lasts waits = subst (ArrivedOn old new (Exchanges exchanger) (Some wait) duty)
      (sym waits.is) (record {
        meets = inl (
          (refl, lasts),
          record {
            nobody = nobody_there waits.nobody;
            last = ap place_of_duty waits.waits ∙ ap (λ o. place_of_duty o ++ duty.place ∷ [])
                (sym waits.nobody);
            others = others_stay;
          },
        );
        own = (refl, (refl, lasts), refl);
        other = λ owed parked. refl;
        parked = λ owed parked is_owed. parked_at owed parked (λ other there. subst (λ (d : OwedDuty). owed
            d.place ≡ Some d) (same_Some _ _ (sym waits.waits ∙ there)) is_owed);
      })

  swapped_nothing : (wait : Wait) (duty : OwedDuty) (result : Arrived) → (Lasts (Some wait) → ⊥)
      → SwappedNothing before after duty result → ArrivedOn old new (Exchanges exchanger) (Some wait) duty
      result
  swapped_nothing wait duty result goes nothing =
      let same : after ≡ before = nothing.none_waits ∙ sym nothing.nobody in
      subst (ArrivedOn old new (Exchanges exchanger) (Some wait) duty) (sym nothing.is) (record {
        meets = inr ((λ may. goes may.1), nobody_there nothing.nobody, nothing_changed same);
        own = (refl, λ unmet may. absurd (goes may.1));
        other = λ owed parked. refl;
        parked = λ owed parked is_owed. parked_at owed parked (λ other there. absurd
            (none-some other (sym nothing.none_waits ∙ there)));
      })

  pub arrived_exchanges : (wait : Wait) (duty : OwedDuty) (result : Arrived)
      → Exchanged before after wait duty result → ArrivedOn old new (Exchanges exchanger) (Some wait) duty
      result
  arrived_exchanges wait duty result (inl swap) = swapped wait duty result swap
  arrived_exchanges wait duty result (inr (inl waits)) = waits_alone wait duty result waits.0 waits.1
  arrived_exchanges wait duty result (inr (inr goes)) = swapped_nothing wait duty result goes.0 goes.1

-- ---- a withdrawal

pub left_as : (old new : Option OwedDuty) (place : ℕ) (result : Option OwedDuty)
    → IfSome result (LeavesExchanger old place new) → IfNone result (NotWaiting old place)
    → IfNone result (new ≡ old) → LeftExchanger old new place result
left_as old new place None taken not_there stays = (not_there, stays)
left_as old new place (Some duty) taken not_there stays = taken

-- ---- free exchangers

pub none_free : AllFree []
none_free exchanger = refl

-- an exchanger more at which nobody waits
pub append_free : (exchangers : List (Option OwedDuty)) (at : Option OwedDuty) → at ≡ None
    → AllFree exchangers → AllFree (exchangers ++ at ∷ [])
append_free [] at none all zero = none
append_free [] at none all (suc exchanger) = refl
append_free (first ∷ exchangers) at none all zero = all zero
append_free (first ∷ exchangers) at none all (suc exchanger) = append_free exchangers at none
    (λ other. all (suc other)) exchanger
