-- What a change of one queue is to all who wait, side by side.
use Rattle.rv_model_queues.proofs.Words.{◌≡◌, ◌∷◌, ◌++◌, ◌∙◌, inl, inr, ℕ, zero, suc, List, [], Option, Some}
use Rattle.rv_model_queues.proofs.Words.{None, refl, sym, ap, subst, option_and_then, slice_get, none-some}
use Rattle.rv_model_queues.proofs.Words.{slice_get-map, slice_get-get_or, Side, Exchanges, Gives, Looks}
use Rattle.rv_model_queues.proofs.Words.{Takes, Wait, OwedDuty, place_of, places_of, Queue, Arrived, Lasts}
use Rattle.rv_model_queues.proofs.Words.{ArrivedOn, FindsNobody, LeavesFirst, OwnDuty, AreParked, IsParked}
use Rattle.rv_model_queues.proofs.Words.{AllEmpty, AreBelow, SameWaitQueues, WaitQueues, place_of_duty}
use Rattle.rv_model_queues.proofs.Words.{queue_at, takers_places, waiting_on, eqb_tells, option_map}
use Rattle.rv_model_queues.proofs.Words.{same_Some}
use Rattle.rv_dual.specs.Offers.{duty_of}
use Rattle.rv_dual.specs.Meanings.{TakenFront}
use Rattle.rv_dual.specs.Queue.{IsAbove, SameLists}
use Rattle.rv_dual.specs.declared.giver.Offer.{Offer}
use Rattle.rv_model_queues.specs.Meeting.{Gave, GaveNobody, GaveTo, LaysDown, LeftFront, StandsBy, Took}
use Rattle.rv_model_queues.specs.Meeting.{TookFrom, TookNothing, offer_by, own_by}
use Rattle.rv_model_queues.specs.Views.{OnlyQueue, exchanger_at}
use Rattle.std.proofs.lemmas.List.{map-append}
use Rattle.rv_model_queues.proofs.Pushed.{pushed_giver, pushed_taker}

-- ---- one queue

-- no other queue changed, and no exchanger
pub record ChangedAt (old new : WaitQueues) (queue : ℕ) : Type 0 where
  pub others : OnlyQueue queue old.queues new.queues
  pub exchangers : new.exchangers ≡ old.exchangers

-- ---- sides

module _ (old new : WaitQueues) (queue : ℕ) (changed : ChangedAt old new queue) where
  abbrev was : Queue
  was = queue_at old.queues queue

  abbrev is_now : Queue
  is_now = queue_at new.queues queue

  givers_elsewhere : (other : ℕ) → (other ≡ queue → ⊥)
      → waiting_on new (Gives other) ≡ waiting_on old (Gives other)
  givers_elsewhere other apart = ap (λ (r : Queue). places_of r.givers) (changed.others other apart)

  takers_elsewhere : (other : ℕ) → (other ≡ queue → ⊥)
      → waiting_on new (Takes other) ≡ waiting_on old (Takes other)
  takers_elsewhere other apart = ap (λ (r : Queue). takers_places r.takers) (changed.others other apart)

  exchangers_same : (exchanger : ℕ)
      → waiting_on new (Exchanges exchanger) ≡ waiting_on old (Exchanges exchanger)
  exchangers_same exchanger = ap (λ l. place_of_duty (exchanger_at l exchanger)) changed.exchangers

  givers_same : is_now.givers ≡ was.givers → (other : ℕ)
      → waiting_on new (Gives other) ≡ waiting_on old (Gives other)
  givers_same same other = elim (eqb_tells other queue) [
    | inl is ↦ subst (λ n. waiting_on new (Gives n) ≡ waiting_on old (Gives n)) (sym is.1) (ap places_of same)
    | inr apart ↦ givers_elsewhere other apart.1
  ]

  takers_same : is_now.takers ≡ was.takers → (other : ℕ)
      → waiting_on new (Takes other) ≡ waiting_on old (Takes other)
  takers_same same other = elim (eqb_tells other queue) [
    | inl is ↦ subst (λ n. waiting_on new (Takes n) ≡ waiting_on old (Takes n)) (sym is.1)
        (ap takers_places same)
    | inr apart ↦ takers_elsewhere other apart.1
  ]

  -- where the givers stay, all sides stay but that of the takers
  pub takers_change : is_now.givers ≡ was.givers → (third : Side) → (third ≡ Takes queue → ⊥)
      → waiting_on new third ≡ waiting_on old third
  takers_change same (Gives other) apart = givers_same same other
  takers_change same (Takes other) apart = takers_elsewhere other (λ is. apart (ap Takes is))
  takers_change same (Looks other) apart = refl
  takers_change same (Exchanges other) apart = exchangers_same other

  pub givers_change : is_now.takers ≡ was.takers → (third : Side) → (third ≡ Gives queue → ⊥)
      → waiting_on new third ≡ waiting_on old third
  givers_change same (Takes other) apart = takers_same same other
  givers_change same (Gives other) apart = givers_elsewhere other (λ is. apart (ap Gives is))
  givers_change same (Looks other) apart = refl
  givers_change same (Exchanges other) apart = exchangers_same other

  pub nothing_changed : SameLists was is_now → SameWaitQueues old new
  nothing_changed same = record {
    queues = λ other. elim (eqb_tells other queue) [
      | inl is ↦ subst (λ n. SameLists (queue_at old.queues n) (queue_at new.queues n)) (sym is.1) same
      | inr apart ↦ record {
        givers = ap (λ (r : Queue). r.givers) (changed.others other apart.1);
        takers =
            ap (λ (r : Queue). r.takers) (changed.others other apart.1);
      }
    ];
    exchangers = λ exchanger. ap (λ l. exchanger_at l exchanger) changed.exchangers;
  }

  pub parked_changed : (owed : ℕ → Option OwedDuty) → AreParked owed old
      → (IsParked owed was → IsParked owed is_now) → AreParked owed new
  parked_changed owed parked step = record {
    queues = λ other. elim (eqb_tells other queue) [
      | inl is ↦ subst (λ n. IsParked owed (queue_at new.queues n)) (sym is.1) (step (parked.queues queue))
      | inr apart ↦ subst (IsParked owed) (sym (changed.others other apart.1)) (parked.queues other)
    ];
    exchangers = λ exchanger duty there. parked.exchangers exchanger duty (ap (λ l. exchanger_at l exchanger)
        (sym changed.exchangers) ∙ there);
  }

-- ---- with nothing changed

pub same_waiting : (old new : WaitQueues) → SameWaitQueues old new → (side : Side)
    → waiting_on new side ≡ waiting_on old side
same_waiting old new same (Gives queue) = ap places_of (same.queues queue).givers
same_waiting old new same (Takes queue) = ap takers_places (same.queues queue).takers
same_waiting old new same (Looks queue) = refl
same_waiting old new same (Exchanges exchanger) = ap place_of_duty (same.exchangers exchanger)

parked_lists : (owed : ℕ → Option OwedDuty) (p q : Queue) → SameLists p q → IsParked owed p → IsParked owed q
parked_lists owed p q same is = record {
  givers = λ i offer at. is.givers i offer (sym (ap (λ (xs : List Offer). slice_get xs i) same.givers) ∙ at);
  takers = λ i duty at. is.takers i duty (sym (ap (λ (xs : List OwedDuty). slice_get xs i) same.takers) ∙ at);
}

pub same_parked : (owed : ℕ → Option OwedDuty) (old new : WaitQueues) → SameWaitQueues old new
    → AreParked owed old
    → AreParked owed new
same_parked owed old new same parked = record {
  queues = λ queue. parked_lists owed (queue_at old.queues queue) (queue_at new.queues queue)
      (same.queues queue) (parked.queues queue);
  exchangers = λ exchanger duty there. parked.exchangers exchanger duty (sym (same.exchangers exchanger)
      ∙ there);
}

-- ---- above all that wait

pub above : (wait_queues : WaitQueues) (queue place : ℕ) → AreBelow wait_queues place
    → IsAbove (queue_at wait_queues.queues queue) place
above wait_queues queue place below =
    let q = queue_at wait_queues.queues queue in
    record {
      givers = λ k d inside. below (Gives queue) k _ (slice_get-map place_of q.givers k
          ∙ ap (λ o. option_map place_of o) (slice_get-get_or q.givers k d inside));
      takers = λ k d inside. below (Takes queue) k _ (slice_get-map (λ (duty : OwedDuty). duty.place) q.takers
          k ∙ ap (λ o. option_map (λ (duty : OwedDuty). duty.place) o) (slice_get-get_or q.takers k d
          inside));
    }

-- ---- an arrival that gives

pub no_takers : (wait_queues : WaitQueues) (queue : ℕ) → (queue_at wait_queues.queues queue).takers ≡ []
    → FindsNobody wait_queues (Gives queue)
no_takers wait_queues queue none other opposes = subst (λ side. waiting_on wait_queues side ≡ [])
    (same_Some _ _ opposes) (ap takers_places none)

pub no_givers : (wait_queues : WaitQueues) (queue : ℕ) → (queue_at wait_queues.queues queue).givers ≡ []
    → FindsNobody wait_queues (Takes queue)
no_givers wait_queues queue none other opposes = subst (λ side. waiting_on wait_queues side ≡ [])
    (same_Some _ _ opposes) (ap places_of none)

some_is_none : {X : Type 0} (x : X) → Some x ≡ None → ⊥
some_is_none x is = none-some x (sym is)

duty_of_offer_by : (wait : Option Wait) (duty : OwedDuty)
    → duty_of (offer_by wait duty) ≡ option_and_then (λ w. Some duty) wait
duty_of_offer_by None duty = refl
duty_of_offer_by (Some wait) duty = refl

place_of_offer_by : (wait : Option Wait) (duty : OwedDuty) → place_of (offer_by wait duty) ≡ duty.place
place_of_offer_by None duty = refl
place_of_offer_by (Some wait) duty = refl

-- who is told to be at the front of a list
first_of : {X : Type 0} (xs ys : List X) (x : X) → xs ≡ x ∷ ys → slice_get xs 0 ≡ Some x
first_of xs ys x is = ap (λ l. slice_get l 0) is

-- ---- the first item leaves

module _ (old new : WaitQueues) (queue : ℕ) (changed : ChangedAt old new queue) where
  first_leaves : (offer : Offer)
      → (queue_at old.queues queue).givers ≡ offer ∷ (queue_at new.queues queue).givers
      → (queue_at new.queues queue).takers ≡ (queue_at old.queues queue).takers
      → LeavesFirst old new (Gives queue) (duty_of offer) (place_of offer)
  first_leaves offer oldest takers = record {
    first = ap places_of oldest;
    others = givers_change old new queue changed takers;
    duty_is = λ owed parked. sym ((parked.queues queue).givers 0 offer
        (first_of (queue_at old.queues queue).givers (queue_at new.queues queue).givers offer oldest));
    parked = λ owed parked. parked_changed old new queue changed owed parked (λ was. record {
      givers = λ i other at. was.givers (suc i) other (ap (λ l. slice_get l (suc i)) oldest ∙ at);
      takers = λ i other at. was.takers i other (sym (ap (λ l. slice_get l i) takers) ∙ at);
    });
  }

  -- if there is one
  pub front_left : (o : Option (Option OwedDuty × ℕ))
      → TakenFront (queue_at old.queues queue) (queue_at new.queues queue) o
      → LeftFront old new (Gives queue) o
  front_left None none = (
    ap places_of none.nobody,
    nothing_changed old new queue changed (record {
      givers = ap (λ (q : Queue). q.givers) none.same;
      takers =
          ap (λ (q : Queue). q.takers) none.same;
    }),
  )
  front_left (Some (duty, place)) out =
      subst (λ d. LeavesFirst old new (Gives queue) d place) (sym out.duty_is)
      (subst (LeavesFirst old new (Gives queue) (duty_of out.front)) (sym out.place_is)
      (first_leaves out.front out.leaves.oldest out.leaves.takers))

-- ---- an arrival

module _ (old new : WaitQueues) (queue : ℕ) (changed : ChangedAt old new queue) (duty : OwedDuty) where
  abbrev pub before : Queue
  before = queue_at old.queues queue

  abbrev pub after : Queue
  after = queue_at new.queues queue

  gave_to : (wait : Option Wait) (result : Arrived) → GaveTo before after duty result
      → ArrivedOn old new (Gives queue) wait duty result
  gave_to wait result gave = subst (ArrivedOn old new (Gives queue) wait duty) (sym gave.is) (record {
    meets = record {
      other = Takes queue;
      opposes = refl;
      first = ap takers_places gave.oldest;
      others = takers_change old new queue changed gave.givers;
    };
    own = (refl, λ is. absurd (some_is_none gave.taker.place is));
    other = λ owed parked. sym ((parked.queues queue).takers 0 gave.taker (first_of before.takers after.takers
        gave.taker gave.oldest));
    parked = λ owed parked is_owed. parked_changed old new queue changed owed parked (λ was. record {
      givers = λ i offer at. was.givers i offer (sym (ap (λ l. slice_get l i) gave.givers) ∙ at);
      takers = λ i other at. was.takers (suc i) other (ap (λ l. slice_get l (suc i)) gave.oldest ∙ at);
    });
  })

  own_of : (wait : Option Wait) → Lasts wait → OwnDuty (Gives queue) wait None duty (own_by wait duty)
  own_of None lasts = (refl, λ unmet may. refl)
  own_of (Some wait) lasts = (refl, (refl, lasts), refl)

  lays_down : (wait : Option Wait) (result : Arrived) → Lasts wait → LaysDown before after wait duty result
      → ArrivedOn old new (Gives queue) wait duty result
  lays_down wait result lasts lays = subst (ArrivedOn old new (Gives queue) wait duty) (sym lays.is) (record {
    meets = inl (
      (refl, lasts),
      record {
        nobody = no_takers old queue lays.nobody;
        last = ap places_of lays.givers ∙ map-append place_of before.givers (offer_by wait duty ∷ [])
            ∙ ap (λ p. waiting_on old (Gives queue) ++ p ∷ []) (place_of_offer_by wait duty);
        others = givers_change old new queue changed lays.takers;
      },
    );
    own = own_of wait lasts;
    other = λ owed parked. refl;
    parked = λ owed parked is_owed. parked_changed old new queue changed owed parked
        (pushed_giver owed before after (offer_by wait duty) (ap owed (place_of_offer_by wait duty) ∙ is_owed
        ∙ sym (duty_of_offer_by wait duty)) lays.givers lays.takers);
  })

  gave_nobody : (wait : Option Wait) (result : Arrived) → (Lasts wait → ⊥)
      → GaveNobody before after duty result → ArrivedOn old new (Gives queue) wait duty result
  gave_nobody wait result goes gave =
      let same = nothing_changed old new queue changed gave.same in
      subst (ArrivedOn old new (Gives queue) wait duty) (sym gave.is) (record {
        meets = inr ((λ may. goes may.1), no_takers old queue gave.nobody, same);
        own = (refl, λ unmet may. absurd (goes may.1));
        other = λ owed parked. refl;
        parked = λ owed parked is_owed. same_parked owed old new same parked;
      })

  pub arrived_gives : (wait : Option Wait) (result : Arrived) → Gave before after wait duty result
      → ArrivedOn old new (Gives queue) wait duty result
  arrived_gives wait result (inl gave) = gave_to wait result gave
  arrived_gives wait result (inr (inl lays)) = lays_down wait result lays.0 lays.1
  arrived_gives wait result (inr (inr goes)) = gave_nobody wait result goes.0 goes.1

  -- ---- an arrival that takes

  took_from : (wait : Option Wait) (result : Arrived) → TookFrom before after duty result
      → ArrivedOn old new (Takes queue) wait duty result
  took_from wait result took =
      let leaves = first_leaves old new queue changed took.offer took.oldest took.takers in
      subst (ArrivedOn old new (Takes queue) wait duty) (sym took.is) (record {
        meets = record { other = Gives queue; opposes = refl; first = leaves.first; others = leaves.others };
        own = (refl, λ is. absurd (some_is_none (place_of took.offer) is));
        other = leaves.duty_is;
        parked = λ owed parked is_owed. leaves.parked owed parked;
      })

  stands_by : (wait : Wait) (result : Arrived) → Lasts (Some wait) → StandsBy before after duty result
      → ArrivedOn old new (Takes queue) (Some wait) duty result
  stands_by wait result lasts stands = subst (ArrivedOn old new (Takes queue) (Some wait) duty)
      (sym stands.is) (record {
        meets = inl (
          (refl, lasts),
          record {
            nobody = no_givers old queue stands.nobody;
            last = ap takers_places stands.takers ∙ map-append (λ (d : OwedDuty). d.place) before.takers
                (duty ∷ []);
            others = takers_change old new queue changed stands.givers;
          },
        );
        own = (refl, (refl, lasts), refl);
        other = λ owed parked. refl;
        parked = λ owed parked is_owed. parked_changed old new queue changed owed parked
            (pushed_taker owed before after duty is_owed stands.takers stands.givers);
      })

  took_nothing : (wait : Option Wait) (result : Arrived) → (Lasts wait → ⊥)
      → TookNothing before after duty result → ArrivedOn old new (Takes queue) wait duty result
  took_nothing wait result goes took =
      let same = nothing_changed old new queue changed took.same in
      subst (ArrivedOn old new (Takes queue) wait duty) (sym took.is) (record {
        meets = inr ((λ may. goes may.1), no_givers old queue took.nobody, same);
        own = (refl, λ unmet may. absurd (goes may.1));
        other = λ owed parked. refl;
        parked = λ owed parked is_owed. same_parked owed old new same parked;
      })

  pub arrived_takes : (wait : Wait) (result : Arrived) → Took before after (Some wait) duty result
      → ArrivedOn old new (Takes queue) (Some wait) duty result
  arrived_takes wait result (inl took) = took_from (Some wait) result took
  arrived_takes wait result (inr (inl stands)) = stands_by wait result stands.0 stands.1
  arrived_takes wait result (inr (inr goes)) = took_nothing (Some wait) result goes.0 goes.1

-- ---- empty queues

pub none_empty : AllEmpty []
none_empty queue = record { givers = refl; takers = refl }

-- a queue more in which nobody waits
pub append_empty : (queues : List Queue) (q : Queue) → q.givers ≡ [] → q.takers ≡ [] → AllEmpty queues
    → AllEmpty (queues ++ q ∷ [])
append_empty [] q givers takers all zero = record { givers = givers; takers = takers }
append_empty [] q givers takers all (suc queue) = record { givers = refl; takers = refl }
append_empty (first ∷ queues) q givers takers all zero = all zero
append_empty (first ∷ queues) q givers takers all (suc queue) = append_empty queues q givers takers
    (λ other. all (suc other)) queue
