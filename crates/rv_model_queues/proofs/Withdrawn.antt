-- What those who wait are when a request was taken out of its queue.
use Rattle.rv_model_queues.proofs.Words.{◌≡◌, ◌∷◌, ◌∙◌, inl, inr, ℕ, suc, List, [], cond, Bool, true, false}
use Rattle.rv_model_queues.proofs.Words.{Option, Some, None, refl, sym, ap, slice_get, none-some, same_Some}
use Rattle.rv_model_queues.proofs.Words.{slice_get-map, slice_get-get_or, Gives, Takes, OwedDuty, place_of}
use Rattle.rv_model_queues.proofs.Words.{places_of, Queue, LeavesSide, StandsOn, AreParked, IsParked}
use Rattle.rv_model_queues.proofs.Words.{WaitQueues, queue_at, takers_places, option_map, eqb_tells}
use Rattle.std.proofs.Common.{map}
use Rattle.std.specs.List.{filter}
use Rattle.std.specs.Prelude.{IfNone, IfSome, not, ◌==◌}
use Rattle.rv_dual.specs.Offers.{duty_of, is_at, waits_at}
use Rattle.rv_dual.specs.Withdrawing.{WaitsAt, Withdraws, without_giver, without_taker}
use Rattle.rv_dual.specs.declared.giver.Offer.{Offer}
use Rattle.rv_dual.specs.declared.giver.Offer.TheVariants.{Put, Waits}
use Rattle.rv_model_queues.proofs.Tabled.{ChangedAt, givers_change, parked_changed, takers_change}
use Rattle.rv_dual.proofs.Found.{contains_at}
use Rattle.rv_model_queues.proofs.Lists.{left_of}

-- ---- lists of which some are left

module _ {X : Type 0} (p : X → Bool) where
  pub filter_all : (xs : List X) → ((i : ℕ) (x : X) → slice_get xs i ≡ Some x → p x ≡ true) → filter p xs ≡ xs
  filter_all [] all = refl
  filter_all (y ∷ xs) all =
      let rest = filter_all xs (λ i x at. all (suc i) x at) in
      ap (λ b. cond b (y ∷ filter p xs) (filter p xs)) (all 0 y refl) ∙ ap (λ l. y ∷ l) rest

module _ {X : Type 0} (f : X → ℕ) (p : X → Bool) (g : ℕ → Bool) where
  map_head : (y : X) (xs : List X) → map f (filter p xs) ≡ filter g (map f xs) → (b : Bool)
      → map f (cond b (y ∷ filter p xs) (filter p xs)) ≡ cond b (f y ∷ filter g (map f xs))
      (filter g (map f xs))
  map_head y xs rest true = ap (λ l. f y ∷ l) rest
  map_head y xs rest false = rest

  -- a test on what is mapped
  pub map_filter : (xs : List X) → ((i : ℕ) (x : X) → slice_get xs i ≡ Some x → p x ≡ g (f x))
      → map f (filter p xs) ≡ filter g (map f xs)
  map_filter [] same = refl
  map_filter (y ∷ xs) same = ap (λ b. map f (cond b (y ∷ filter p xs) (filter p xs))) (same 0 y refl)
      ∙ map_head y xs (map_filter xs (λ i x at. same (suc i) x at)) (g (f y))

mapped_there : {X : Type 0} (f : X → ℕ) (o : Option X) (y : ℕ) → option_map f o ≡ Some y
    → (x : X) × (o ≡ Some x) × (f x ≡ y)
mapped_there f None y is = absurd (none-some y is)
mapped_there f (Some x) y is = (x, refl, same_Some _ _ is)

-- what stands at a place of a mapped list
got : {X : Type 0} (f : X → ℕ) (xs : List X) (y : ℕ) → (i : ℕ) × (slice_get (map f xs) i ≡ Some y)
    → (i : ℕ) × (x : X) × (slice_get xs i ≡ Some x) × (f x ≡ y)
got f xs y (i, at) = let there = mapped_there f (slice_get xs i) y (sym (slice_get-map f xs i) ∙ at) in
    (i, there.0, there.1, there.2)

-- ---- numbers

pub differs : (m n : ℕ) → (m ≡ n → ⊥) → not (m == n) ≡ true
differs m n apart = elim (eqb_tells m n) [
  | inl same ↦ absurd (apart same.1)
  | inr differ ↦ ap not differ.0
]

-- ---- one queue

module _ (owed : ℕ → Option OwedDuty) (q : Queue) (place : ℕ) (duty : OwedDuty) (parked : IsParked owed q)
    (is_owed : owed place ≡ Some duty) where
  offer_of_duty : (offer : Offer) → duty_of offer ≡ Some duty → offer ≡ Waits duty
  offer_of_duty (Put other) is = absurd (none-some duty is)
  offer_of_duty (Waits other) is = ap Waits (same_Some _ _ is)

  -- who waits there with an item waits with this duty
  pub gives_there : (i : ℕ) (offer : Offer) → slice_get q.givers i ≡ Some offer → place_of offer ≡ place
      → offer ≡ Waits duty
  gives_there i offer at is = offer_of_duty offer (sym (parked.givers i offer at) ∙ ap owed is ∙ is_owed)

  pub takes_there : (i : ℕ) (d : OwedDuty) → slice_get q.takers i ≡ Some d → d.place ≡ place → d ≡ duty
  takes_there i d at is = same_Some _ _ (sym (parked.takers i d at) ∙ ap owed is ∙ is_owed)

  -- whoever waits there has this duty
  waits_with : (d : OwedDuty) → WaitsAt q place d → d ≡ duty
  waits_with d (inl gives) =
      let k = gives.0.0 in
      let at = slice_get-get_or q.givers k (Waits d) gives.0.1 ∙ ap Some gives.0.2 in
      let is : ◌≡◌ {A = Offer} (Waits d) (Waits duty) = gives_there k (Waits d) at gives.1 in
      cc
  waits_with d (inr takes) =
      let k = takes.0.0 in
      takes_there k d (slice_get-get_or q.takers k d takes.0.1 ∙ ap Some takes.0.2) takes.1

  given_back : (result : Option OwedDuty) → WaitsAt q place duty → IfSome result (WaitsAt q place)
      → IfNone result ((d : OwedDuty) → WaitsAt q place d → ⊥) → result ≡ Some duty
  given_back None waits some none = absurd (none duty waits)
  given_back (Some d) waits some none = ap Some (waits_with d some)

  -- who gives or takes at the place does so with this duty, and it comes back
  pub giver_place : (i : ℕ) × (offer : Offer) × (slice_get q.givers i ≡ Some offer) × (place_of offer ≡ place)
      → duty.place ≡ place
  giver_place (i, offer, at, is) = ap place_of (sym (gives_there i offer at is)) ∙ is

  pub taker_place : (i : ℕ) × (d : OwedDuty) × (slice_get q.takers i ≡ Some d) × (d.place ≡ place)
      → duty.place ≡ place
  taker_place (i, d, at, is) = ap (λ (o : OwedDuty). o.place) (sym (takes_there i d at is)) ∙ is

  pub giver_back : (new : Queue) (result : Option OwedDuty) → Withdraws q new place result
      → (i : ℕ) × (offer : Offer) × (slice_get q.givers i ≡ Some offer) × (place_of offer ≡ place)
      → result ≡ Some duty
  giver_back new result w (i, offer, at, is) =
      given_back result (inl (
        contains_at q.givers i (Waits duty) (at ∙ ap Some (gives_there i offer at is)),
        giver_place (i, offer, at, is),
      )) w.some w.none

  pub taker_back : (new : Queue) (result : Option OwedDuty) → Withdraws q new place result
      → (i : ℕ) × (d : OwedDuty) × (slice_get q.takers i ≡ Some d) × (d.place ≡ place) → result ≡ Some duty
  taker_back new result w (i, d, at, is) =
      given_back result (inr (
        contains_at q.takers i duty (at ∙ ap Some (takes_there i d at is)),
        taker_place (i, d, at, is),
      )) w.some w.none

  -- who stays, if this is the duty's place
  module _ (same : duty.place ≡ place) where
    stays_by : (i : ℕ) (offer : Offer) → slice_get q.givers i ≡ Some offer
        → not (waits_at place offer) ≡ not (place_of offer == duty.place)
    stays_by i (Put other) at =
        let apart = λ (is : other ≡ place). let no : ◌≡◌ {A = Offer} (Put other) (Waits duty) =
        gives_there i (Put other) at is in absurd (cc) in
        sym (ap (λ n. not (other == n)) same ∙ differs other place apart)
    stays_by i (Waits d) at = ap (λ n. not (d.place == n)) (sym same)

    pub givers_left : places_of (without_giver place q.givers) ≡ filter (λ r. not (r == duty.place))
        (places_of q.givers)
    givers_left = map_filter place_of (λ offer. not (waits_at place offer)) (λ r. not (r == duty.place))
        q.givers stays_by

    pub takers_left : takers_places (without_taker place q.takers) ≡ filter (λ r. not (r == duty.place))
        (takers_places q.takers)
    takers_left = map_filter (λ (d : OwedDuty). d.place) (λ (d : OwedDuty). not (is_at place d))
        (λ r. not (r == duty.place)) q.takers (λ i d at. ap (λ n. not (d.place == n)) (sym same))

pub parked_left : (owed : ℕ → Option OwedDuty) (q new : Queue) (place : ℕ) (result : Option OwedDuty)
    → Withdraws q new place result → IsParked owed q → IsParked owed new
parked_left owed q new place result w parked = record {
  givers = λ i offer at.
      let old = left_of (λ (o : Offer). not (waits_at place o)) q.givers i offer
      (sym (ap (λ l. slice_get l i) w.givers) ∙ at) in
      parked.givers old.0 offer old.1;
  takers = λ i d at.
      let old = left_of (λ (o : OwedDuty). not (is_at place o)) q.takers i d
      (sym (ap (λ l. slice_get l i) w.takers) ∙ at) in
      parked.takers old.0 d old.1;
}

-- ---- all who wait

module _ (old new : WaitQueues) (queue : ℕ) (changed : ChangedAt old new queue) (place : ℕ) (result :
    Option OwedDuty) (w : Withdraws (queue_at old.queues queue) (queue_at new.queues queue) place result)
    (owed : ℕ → Option OwedDuty) (duty : OwedDuty) (parked : AreParked owed old) (is_owed : owed place ≡ Some
    duty)
  where
    abbrev pub was : Queue
    was = queue_at old.queues queue

    abbrev pub is_now : Queue
    is_now = queue_at new.queues queue

    pub left_givers : StandsOn old (Gives queue) place → LeavesSide old new (Gives queue) duty result
    left_givers stands =
        let none = λ (i : ℕ) (d : OwedDuty) (at : slice_get was.takers i ≡ Some d).
        differs d.place place (λ is.
        let there = slice_get-map (λ (o : OwedDuty). o.place) was.takers i
        ∙ ap (option_map (λ (o : OwedDuty). o.place)) at in
        let sides : Takes queue ≡ Gives queue = stands.only (Takes queue) i (there ∙ ap Some is) in
        absurd (cc)) in
        let takers : is_now.takers ≡ was.takers = w.takers ∙ filter_all (λ (d : OwedDuty). not
        (is_at place d))
        was.takers none in
        let at = got place_of was.givers place (stands.i, stands.there) in
        let here = parked.queues queue in
        record {
          is = giver_back owed was place duty here is_owed is_now result w at;
          places = ap places_of w.givers ∙ givers_left owed was place duty here is_owed
              (giver_place owed was place duty here is_owed at);
          others = givers_change old new queue changed takers;
          parked = λ other before. parked_changed old new queue changed other before (parked_left other was
              is_now place result w);
        }

    pub left_takers : StandsOn old (Takes queue) place → LeavesSide old new (Takes queue) duty result
    left_takers stands =
        let none = λ (i : ℕ) (o : Offer) (at : slice_get was.givers i ≡ Some o). passes o
        (λ is.
        let there = slice_get-map place_of was.givers i ∙ ap (option_map place_of) at in
        let sides : Gives queue ≡ Takes queue = stands.only (Gives queue) i (there ∙ ap Some is) in
        absurd (cc)) in
        let givers : is_now.givers ≡ was.givers = w.givers
        ∙ filter_all (λ (o : Offer). not (waits_at place o))
        was.givers none in
        let at = got (λ (d : OwedDuty). d.place) was.takers place (stands.i, stands.there) in
        let here = parked.queues queue in
        record {
          is = taker_back owed was place duty here is_owed is_now result w at;
          places = ap takers_places w.takers ∙ takers_left owed was place duty here is_owed
              (taker_place owed was place duty here is_owed at);
          others = takers_change old new queue changed givers;
          parked = λ other before. parked_changed old new queue changed other before (parked_left other was
              is_now place result w);
        }
      where
        passes : (o : Offer) → (place_of o ≡ place → ⊥) → not (waits_at place o) ≡ true
        passes (Put other) apart = refl
        passes (Waits d) apart = differs d.place place apart
