-- The tables of what is open, where an arrival stays.
use Rattle.std.proofs.Common.{◌≡◌, ◌<◌, ◌++◌, ◌∷◌, ◌∙◌, ◌+◌, ◌-◌, ℕ, List, [], true}
use Rattle.std.proofs.Common.{cond, not, Option, Some, None, is_some, refl, sym, ap, subst}
use Rattle.std.proofs.Common.{arith}
use Rattle.std.proofs.Common.{nat_eq, inl, inr}
use Rattle.std.specs.Prelude.{Err, Ok, OnErr, Result, option_and_then, option_map}
use Rattle.std.proofs.lemmas.Bool.{eq-eqb, false≢true}
use Rattle.std.proofs.lemmas.Bool.Decides.{nat_tests}
use Rattle.std.proofs.lemmas.List.{append-nil}
use Rattle.std.proofs.lemmas.List.Elements.{filter-append}
use Rattle.rv_text.specs.declared.message.Key.{Key}
use Rattle.rv_text.specs.declared.call.Call.{Call}
use Rattle.rv_text.specs.declared.call.Wait.{Wait}
use Rattle.rv_text.specs.Calls.{side_of, wait_of}
use Rattle.rv_text.specs.Limits.{FitsSide}
use Rattle.rv_session.specs.OwedDuty.{OwedDuty}
use Rattle.rv_due.specs.Deadlines.{Deadlines}
use Rattle.rv_account.specs.state.State.{OpenPlace, Waiter}
use Rattle.rv_account.proofs.OfState.Words.{none-some}
use Rattle.rv_model_queues.specs.declared.outcome.Arrived.{Arrived}
use Rattle.rv_model_queues.specs.Meeting.{ArrivedOn, FindsNobody, MeetsFirst, MeetsOrWaits, OwnDuty}
use Rattle.rv_model_queues.specs.Meeting.{PartnersDuty, StartsToWait}
use Rattle.rv_model_queues.specs.Views.{SameWaitQueues, WaitQueues, waiting_on}
use Rattle.rv_model_queues.proofs.Tabled.{same_parked, same_waiting}
use Rattle.rv_machine.specs.open_places.OpenMap.{StandBelow, duty_at, owed_among}
use Rattle.rv_machine.specs.open_places.OpenMap.{count_waiting, with_limit, all_but}
use Rattle.rv_machine.specs.open_places.Indexed.{AreIndexed, MayPark, own_duty}
use Rattle.rv_machine.proofs.OfOpenPlaces.Firsts.{count_owed}
use Rattle.rv_machine.proofs.OfOpenPlaces.Kept.{filter_these}
use Rattle.rv_machine.proofs.OfOpenPlaces.Laying.{counted_more, finds_nobody, laid_index}

-- ---- with other room alone

pub same_index : (all : List OpenPlace) (old new : WaitQueues) (waiting : ℕ) (due : Deadlines)
    → AreIndexed all old waiting due → SameWaitQueues old new → AreIndexed all new waiting due
same_index all old new waiting due is same = record {
  rise = is.rise;
  fit = is.fit;
  limited = is.limited;
  lines = λ side. same_waiting old new same side ∙ is.lines side;
  parked = same_parked (owed_among all) old new same is.parked;
  counted = is.counted;
  limits = is.limits;
}

-- what was opened last is taken out again
pub taken_back : (all : List OpenPlace) (o : OpenPlace) → StandBelow all o.place
    → all_but (all ++ o ∷ []) o.place ≡ all
taken_back all o below =
    filter-append (λ (x : OpenPlace). not (nat_eq x.place o.place)) all (o ∷ [])
    ∙ (λ i. filter_these (λ (x : OpenPlace). not (nat_eq x.place o.place)) all
    (λ j x at. let less : x.place < o.place = below j x at in apart_below x.place o.place less) i
    ++ cond (not (eq-eqb o.place o.place refl i)) (o ∷ []) [])
    ∙ append-nil all
  where
    apart_below : (a b : ℕ) → a < b → not (nat_eq a b) ≡ true
    apart_below a b less = grind (arith, nat_tests)

pub on_err_back : {T E : Type 0} (a b c : List OpenPlace) (r : Result T E) → OnErr r (a ≡ b) → b ≡ c
    → OnErr r (a ≡ c)
on_err_back a b c (Ok x) is then = is
on_err_back a b c (Err x) is then = is ∙ then

-- ---- an arrival that stays

module _ (all : List OpenPlace) (old new : WaitQueues) (waiting : ℕ) (due : Deadlines) (o : OpenPlace)
    (key : Key) (call : Call) (result : Arrived) (is : AreIndexed all old waiting due)
    (may : MayPark all o key call) where
  abbrev duty : OwedDuty
  duty = record { place = o.place; client = key.client }

  as_some : (wait : Option Wait) → option_map (λ w. duty) wait ≡ option_and_then (λ w. Some duty) wait
  as_some None = refl
  as_some (Some w) = refl

  not_met : FindsNobody old (side_of call)
  not_met = finds_nobody all old waiting due (side_of call) is may.alone

  module _ (arrived : ArrivedOn old new (side_of call) (wait_of call) duty result) where
    cons_nil : (p : ℕ) (ps : List ℕ) → [] ≡ p ∷ ps → ⊥
    cons_nil p ps is = cc

    nobody_met : (partner : ℕ) → MeetsFirst old new (side_of call) partner → ⊥
    nobody_met partner first =
        cons_nil partner (waiting_on new first.other) (sym (not_met first.other first.opposes) ∙ first.first)

    starts : (partner : Option ℕ) → MeetsOrWaits old new (side_of call) (wait_of call) o.place partner
        → StartsToWait old new (side_of call) o.place
    starts (Some partner) first = absurd (nobody_met partner first)
    starts None (inl waits) = waits.1
    starts None (inr goes) = absurd (goes.0 may.stays)

    pub no_partner : (partner : Option ℕ)
        → MeetsOrWaits old new (side_of call) (wait_of call) o.place partner → partner ≡ None
    no_partner (Some partner) first = absurd (nobody_met partner first)
    no_partner None waits = refl

    pub parked_index : (count : ℕ) (after : Deadlines) → count ≡ count_waiting (all ++ o ∷ [])
        → after ≡ with_limit o.limit o.place due → AreIndexed (all ++ o ∷ []) new count after
    parked_index = laid_index all old waiting due o is may.below new
        (subst (λ s. StartsToWait old new s o.place) (sym may.side) (starts result.partner arrived.meets))
        (λ owed parked at. arrived.parked owed parked (at ∙ may.waiter ∙ as_some (wait_of call)))
        (subst (λ s. FitsSide s) (sym may.side) may.fits) may.limited

    -- the duty comes back where it is a put's
    pub own_back : result.own ≡ own_duty (wait_of call) duty
    own_back = by_own result.own (wait_of call) refl
        (subst (λ p. OwnDuty (side_of call) (wait_of call) p duty result.own)
        (no_partner result.partner arrived.meets) arrived.own)
      where
        by_own : (own : Option OwedDuty) (wait : Option Wait) → wait_of call ≡ wait
            → OwnDuty (side_of call) (wait_of call) None duty own → own ≡ own_duty wait duty
        by_own None None is none = absurd (false≢true (ap (λ (w : Option Wait). is_some w) (sym is) ∙ none.2))
        by_own None (Some w) is none = refl
        by_own (Some own) None is back = ap Some back.0
        by_own (Some own) (Some w) is back = absurd (none-some w (sym (back.1 refl may.stays) ∙ is))

    -- and no other is owed
    pub nobody_owed : result.other ≡ None
    nobody_owed = subst (λ p. PartnersDuty (owed_among all) p result.other)
        (no_partner result.partner arrived.meets) (arrived.other (owed_among all) is.parked)

  -- how many wait with it
  pub counted_back : (own : Option OwedDuty) (count : ℕ) → own ≡ own_duty (wait_of call) duty
      → count ≡ cond (is_some own) 1 0 → waiting + (1 - count) ≡ count_waiting (all ++ o ∷ [])
  counted_back own count own_is count_is =
      by_wait (wait_of call) own own_is count_is refl by_waiter
    where
      by_waiter : is_some {T = OwedDuty} (option_map (λ w. duty) (wait_of call)) ≡ is_some {T = Waiter}
          o.waiter
      by_waiter = sym (ap (λ (d : Option OwedDuty). is_some d) may.waiter) ∙ count_owed o (duty_at o) refl

      by_wait : (wait : Option Wait) (own : Option OwedDuty) → own ≡ own_duty wait duty
          → count ≡ cond (is_some own) 1 0 → is_some {T = Waiter} o.waiter ≡ is_some {T = Waiter} o.waiter
          → is_some {T = OwedDuty} (option_map (λ w. duty) wait) ≡ is_some {T = Waiter} o.waiter
          → waiting + (1 - count) ≡ count_waiting (all ++ o ∷ [])
      by_wait None own own_is count_is same waits =
          let one : count ≡ 1 = count_is ∙ ap (λ (d : Option OwedDuty). cond (is_some d) 1 0) own_is in
          let none : count_waiting (all ++ o ∷ []) ≡ count_waiting all + 0 = counted_more all old waiting due
          o is may.below
          ∙ ap (λ b. count_waiting all + cond b 1 0) (sym waits) in
          omega (arith, one, none, is.counted)
      by_wait (Some w) own own_is count_is same waits =
          let no : count ≡ 0 = count_is ∙ ap (λ (d : Option OwedDuty). cond (is_some d) 1 0) own_is in
          let more_wait : count_waiting (all ++ o ∷ []) ≡ count_waiting all + 1 = counted_more all old waiting
          due o is may.below
          ∙ ap (λ b. count_waiting all + cond b 1 0) (sym waits) in
          omega (arith, no, more_wait, is.counted)
