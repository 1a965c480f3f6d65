-- An arrival meets the first of the line that it faces.
use Rattle.std.proofs.Common.{◌≡◌, ◌≢◌, ◌⊎◌, ◌<◌, ◌∷◌, ◌∙◌, ℕ, suc, List, []}
use Rattle.std.proofs.Common.{false, cond, Option, Some, None, length, refl, sym, ap}
use Rattle.std.proofs.Common.{subst, arith, slice_get, nat_eq, inl, inr}
use Rattle.std.specs.Prelude.{option_and_then}
use Rattle.std.proofs.lemmas.Bool.{eq-eqb, false≢true}
use Rattle.std.proofs.lemmas.Bool.Decides.{nat_tests}
use Rattle.rv_text.specs.declared.call.Side.{Side}
use Rattle.rv_text.specs.declared.call.Wait.{Wait}
use Rattle.rv_session.specs.OwedDuty.{OwedDuty}
use Rattle.rv_due.specs.Deadlines.{Deadlines}
use Rattle.rv_account.specs.Calls.{opposite}
use Rattle.rv_account.specs.state.State.{OpenPlace, same_side}
use Rattle.rv_account.proofs.OfState.Words.{none-some, same_Some}
use Rattle.rv_model_queues.specs.declared.outcome.Arrived.{Arrived}
use Rattle.rv_model_queues.specs.Parked.{AreParked}
use Rattle.rv_model_queues.specs.Meeting.{ArrivedOn, FindsNobody, HasRoomOn, MeetsOrWaits, OwnDuty}
use Rattle.rv_model_queues.specs.Meeting.{PartnersDuty}
use Rattle.rv_model_queues.specs.Views.{AreBelow, WaitQueues, waiting_on}
use Rattle.rv_machine.specs.open_places.OpenMap.{StandBelow, facing, line_in, opposed_in, owed_among}
use Rattle.rv_machine.specs.open_places.Indexed.{AreIndexed}
use Rattle.rv_machine.proofs.OfOpenPlaces.Firsts.{FirstLeft, first_left, no_places}
use Rattle.rv_machine.proofs.OfOpenPlaces.Indexing.{on_line, parked_on, side_or_not}
use Rattle.rv_account.proofs.OfState.SideLines.{same_side_itself}

-- ---- all stand below an arrival

pub are_below : (all : List OpenPlace) (wait_queues : WaitQueues) (waiting place : ℕ) (due : Deadlines)
    → AreIndexed all wait_queues waiting due → StandBelow all place → AreBelow wait_queues place
are_below all wait_queues waiting place due is below side i r on =
    let found = on_line all side i r (sym (ap (λ l. slice_get l i) (is.lines side)) ∙ on) in
    let less : found.1.place < place = below found.0 found.1 found.2 in
    subst (λ p. p < place) found.3 less

-- ---- somebody is there

none_facing : (all : List OpenPlace) (wait_queues : WaitQueues) (waiting : ℕ) (due : Deadlines) (side : Side)
    → AreIndexed all wait_queues waiting due → FindsNobody wait_queues side → (o : Option Side)
    → opposite side ≡ o
    → facing all o ≡ []
none_facing all wait_queues waiting due side is nobody None has = refl
none_facing all wait_queues waiting due side is nobody (Some other) has =
    no_places (line_in all other) (sym (is.lines other) ∙ nobody other has)

pub somebody : (all : List OpenPlace) (wait_queues : WaitQueues) (waiting : ℕ) (due : Deadlines) (side : Side)
    → AreIndexed all wait_queues waiting due → 0 < length (opposed_in all side) → FindsNobody wait_queues side
    → ⊥
somebody all wait_queues waiting due side is some nobody =
    let none = none_facing all wait_queues waiting due side is nobody (opposite side) refl in
    let zero_long : length (opposed_in all side) ≡ 0 = ap (λ (l : List OpenPlace). length l) none in
    omega (arith, zero_long, some)

pub room_needless : (all : List OpenPlace) (wait_queues : WaitQueues) (waiting : ℕ) (due : Deadlines) (side :
    Side)
    (wait : Option Wait) → AreIndexed all wait_queues waiting due → 0 < length (opposed_in all side)
    → HasRoomOn wait_queues side wait
room_needless all wait_queues waiting due side wait is some parks =
    absurd (somebody all wait_queues waiting due side is some parks.nobody)

-- ---- it was met

-- the arrival met the first of the line that it faces, at this place
pub record MetFirst (all : List OpenPlace) (old new : WaitQueues) (side : Side) (duty : OwedDuty)
    (result : Arrived) : Type 0 where
  pub partner : ℕ
  pub partner_is : result.partner ≡ Some partner
  pub other : Side
  pub opposes : opposite side ≡ Some other
  pub own : result.own ≡ Some duty
  pub owed : result.other ≡ owed_among all partner
  pub left : FirstLeft all old new other partner

module _ (all : List OpenPlace) (old new : WaitQueues) (waiting : ℕ) (due : Deadlines) (side : Side)
    (wait : Option Wait) (duty : OwedDuty) (result : Arrived) (is : AreIndexed all old waiting due)
    (some : 0 < length (opposed_in all side)) (below : StandBelow all duty.place)
    (arrived : ArrivedOn old new side wait duty result) where
  own_back : (partner : ℕ) → result.partner ≡ Some partner → (own : Option OwedDuty) → result.own ≡ own
      → OwnDuty side wait result.partner duty own → own ≡ Some duty
  own_back partner met None is_own none = absurd (none-some partner (sym none.0 ∙ met))
  own_back partner met (Some own) is_own back = ap Some back.0

  -- what is owed with the arrival's own duty
  abbrev with_own : ℕ → Option OwedDuty
  with_own r = cond (nat_eq r duty.place) (option_and_then (λ w. Some duty) wait) (owed_among all r)

  apart : (r : ℕ) → r < duty.place → with_own r ≡ owed_among all r
  apart r less = ap (λ b. cond b (option_and_then (λ w. Some duty) wait) (owed_among all r)) not_own
    where
      not_own : nat_eq r duty.place ≡ false
      not_own = grind (arith, nat_tests)

  owned : with_own duty.place ≡ option_and_then (λ w. Some duty) wait
  owned = ap (λ b. cond b (option_and_then (λ w. Some duty) wait) (owed_among all duty.place))
      (eq-eqb duty.place duty.place refl)

  all_below : AreBelow old duty.place
  all_below = are_below all old waiting duty.place due is below

  module _ (partner : ℕ) (other : Side) (opposes : opposite side ≡ Some other)
      (first : waiting_on old other ≡ partner ∷ waiting_on new other)
      (others : (third : Side) → third ≢ other → waiting_on new third ≡ waiting_on old third) where
    stood : (third : Side) (i r : ℕ) → (third ≡ other) ⊎ (same_side third other ≡ false)
        → slice_get (waiting_on new third) i ≡ Some r → r < duty.place
    stood third i r (inl same) on = all_below other (suc i) r
        (ap (λ l. slice_get l (suc i)) first ∙ ap (λ s. slice_get (waiting_on new s) i) (sym same) ∙ on)
    stood third i r (inr differs) on = all_below third i r
        (ap (λ l. slice_get l i) (sym (others third (λ same. false≢true (sym differs
        ∙ ap (λ s. same_side s other) same ∙ same_side_itself other)))) ∙ on)

    left_parked : AreParked (owed_among all) new
    left_parked = parked_on with_own (owed_among all) new
        (λ third i r on. sym (apart r (stood third i r (side_or_not third other) on)))
        (arrived.parked with_own (parked_on (owed_among all) with_own old
        (λ third i r on. apart r (all_below third i r on)) is.parked) owned)

    met_first : result.partner ≡ Some partner → MetFirst all old new side duty result
    met_first partner_is = record {
      partner = partner;
      partner_is = partner_is;
      other = other;
      opposes = opposes;
      own = own_back partner partner_is result.own refl arrived.own;
      owed = partners_duty result.partner partner_is (arrived.other (owed_among all) is.parked);
      left = first_left all old new waiting due other partner is first others left_parked;
    }
      where
        partners_duty : (o : Option ℕ) → o ≡ Some partner → PartnersDuty (owed_among all) o result.other
            → result.other ≡ owed_among all partner
        partners_duty None is says = absurd (none-some partner is)
        partners_duty (Some p) is says = says ∙ ap (owed_among all) (same_Some _ _ is)

  by_partner : (o : Option ℕ) → result.partner ≡ o → MeetsOrWaits old new side wait duty.place o
      → MetFirst all old new side duty result
  by_partner None none (inl waits) = absurd (somebody all old waiting due side is some waits.1.nobody)
  by_partner None none (inr goes) = absurd (somebody all old waiting due side is some goes.1)
  by_partner (Some partner) met first =
      met_first partner first.other first.opposes first.first first.others met

  pub met : MetFirst all old new side duty result
  met = by_partner result.partner refl arrived.meets
