-- What an arrival that meets nobody is told, within its limits, and whether it stays.
use Rattle.std.proofs.Common.{◌≡◌, ◌⊎◌, ◌≤◌, ◌∷◌, ◌∙◌, ◌&&◌, ℕ, zero, suc, List, [], Bool, true, false}
use Rattle.std.proofs.Common.{Option, Some, None, IsSome}
use Rattle.std.proofs.Common.{inl, inr, refl, sym, ap, subst, arith, length, slice_get}
use Rattle.std.proofs.Common.{cond}
use Rattle.std.proofs.lemmas.Bool.Decides.{nat_tests}
use Rattle.std.proofs.lemmas.List.Elements.{All-nil}
use Rattle.std.specs.Prelude.{filter, option_map}
use Rattle.rv_text.specs.declared.call.Call.{Call}
use Rattle.rv_text.specs.declared.call.Call.TheVariants as call
use Rattle.rv_text.specs.declared.call.Side.{Side}
use Rattle.rv_text.specs.declared.call.Side.TheVariants.{Gives, Takes}
use Rattle.rv_text.specs.declared.call.Wait.{Wait}
use Rattle.rv_text.specs.declared.call.Wait.TheVariants.{Now, Millis, Forever}
use Rattle.rv_text.specs.declared.answer.Reply.{Reply}
use Rattle.rv_text.specs.declared.answer.Reply.TheVariants as reply
use Rattle.rv_text.specs.Calls.{wait_of}
use Rattle.rv_text.specs.Limits.{FitsItem, FitsReply, IsOfEpoch}
use Rattle.rv_account.specs.Calls.{Lasts}
use Rattle.rv_account.specs.rules.StepLimits.{most_open_places}
use Rattle.rv_account.specs.state.After.{lasts_by, stays_open, told_alone, told_front, told_unmet}
use Rattle.rv_account.proofs.OfRules.CallKinds.{gives_item}
use Rattle.rv_account.specs.state.State.{OpenPlace, State, Waiter, line, same_side}
use Rattle.rv_account.proofs.OfState.SideLines.{same_side_is}
use Rattle.rv_account.proofs.OfState.Filtered.{filter_get}
use Rattle.rv_text.specs.declared.version.Version.{Version}
use Rattle.rv_account.specs.state.resume.Suiting.{EndsUnmet, SuitsCall}
use Rattle.rv_account.specs.state.resume.Resuming.{CanResume, IsOpenIn}
use Rattle.rv_account.proofs.OfState.Resumed.Fitting.{open_item_fits}
use Rattle.rv_account.proofs.OfState.Resumed.Kept.{HoldsTogether, holds}

-- it doesn't stay, and is told a reply within its limits
pub record GoesTold (epoch : ℕ) (Suits : Reply → Type 0) (stays : Bool) (told : Option Reply) : Type 0 where
  pub goes : stays ≡ false
  pub reply : Reply
  pub is : told ≡ Some reply
  pub fits : FitsReply reply
  pub of_epoch : IsOfEpoch epoch reply
  pub suits : Suits reply

-- its item stays
pub record LeavesItem (Suits : Reply → Type 0) (wait : Option Wait) (stays : Bool) (told : Option Reply) :
    Type 0
  where
    pub suits : Suits reply.Done
    pub stays_is : stays ≡ true
    pub put : wait ≡ None
    pub is : told ≡ Some reply.Done

-- it waits
pub record StaysWaiting (wait : Option Wait) (stays : Bool) (told : Option Reply) : Type 0 where
  pub stays_is : stays ≡ true
  pub untold : told ≡ None
  pub may_wait : IsSome wait
  pub lasts : Lasts wait

abbrev pub Ends : ℕ → (Reply → Type 0) → Option Wait → Bool → Option Reply → Type 0
Ends epoch Suits wait stays told =
    GoesTold epoch Suits stays told ⊎ (LeavesItem Suits wait stays told ⊎ StaysWaiting wait stays told)

goes : (epoch : ℕ) (Suits : Reply → Type 0) (wait : Option Wait) (stays : Bool) (its : Reply) → stays ≡ false
    → FitsReply its → IsOfEpoch epoch its → Suits its → Ends epoch Suits wait stays (Some its)
goes epoch Suits wait stays its is fits of suits =
    inl (record { goes = is; reply = its; is = refl; fits = fits; of_epoch = of; suits = suits })

unmet : (epoch : ℕ) (Suits : Reply → Type 0) (wait : Wait) (at_once : Reply) → FitsReply at_once
    → IsOfEpoch epoch at_once → ((told : Reply) → EndsUnmet wait at_once told → Suits told)
    → Ends epoch Suits (Some wait) (true && lasts_by (Some wait)) (told_unmet wait at_once)
unmet epoch Suits Now at_once fits of suits =
    goes epoch Suits (Some Now) false at_once refl fits of (suits at_once refl)
unmet epoch Suits (Millis zero) at_once fits of suits =
    goes epoch Suits (Some (Millis zero)) false reply.TimedOut refl tt tt (suits reply.TimedOut refl)
unmet epoch Suits (Millis (suc n)) at_once fits of suits =
    inr (inr (record {
      stays_is = grind (arith, nat_tests);
      untold = refl;
      may_wait = refl;
      lasts = omega arith;
    }))
unmet epoch Suits Forever at_once fits of suits =
    inr (inr (record { stays_is = refl; untold = refl; may_wait = refl; lasts = tt }))

-- what is left of a list is no longer
pub filter_short : {X : Type 0} (p : X → Bool) (xs : List X) → length (filter p xs) ≤ length xs
filter_short p [] = omega arith
filter_short p (x ∷ xs) = by_head (p x) (filter_short p xs)
  where
    by_head : (b : Bool) → length (filter p xs) ≤ length xs
        → length (cond b (x ∷ filter p xs) (filter p xs)) ≤ length (x ∷ xs)
    by_head true rest = omega (arith, rest)
    by_head false rest = omega (arith, rest)

-- who gives has an item
giver_by : (s : State) → HoldsTogether s → (there : OpenPlace) → IsOpenIn s there → (queue : ℕ)
    → there.side ≡ Gives queue → (o : Option Waiter) → there.waiter ≡ o
    → (item : List ℕ) × (there.item ≡ Some item)
giver_by s is there at queue side None none = let own = is.lies there at none in (own.item, own.has)
giver_by s is there at queue side (Some w) waits =
    let own = is.awaited there w at waits in
    let has = gives_item own.call queue (sym own.side ∙ side) in (has.0, own.item ∙ has.1)

pub giver_item : (s : State) → HoldsTogether s → (there : OpenPlace) → IsOpenIn s there → (queue : ℕ)
    → there.side ≡ Gives queue → (item : List ℕ) × (there.item ≡ Some item)
giver_item s is there at queue side = giver_by s is there at queue side there.waiter refl

-- who stands in the line of a side is open, and on that side
pub in_line : (s : State) (side : Side) (i : ℕ) (there : OpenPlace) → slice_get (line s side) i ≡ Some there
    → IsOpenIn s there × (there.side ≡ side)
in_line s side i there at =
    let found = filter_get (λ (o : OpenPlace). same_side o.side side) s.open_places i there at in
    ((found.0, found.1), same_side_is there.side side found.2)

module _ (s : State) (is : CanResume s) where
  counted_fits : (side : Side) → length (line s side) ≤ most_open_places
  counted_fits side =
      let short = filter_short (λ (o : OpenPlace). same_side o.side side) s.open_places in
      let few = is.room.places in omega (arith, short, few)

  module _ (version : Version) where
    front_told : (queue : ℕ) (l : List OpenPlace) → line s (Gives queue) ≡ l
        → Ends s.epoch (SuitsCall version (call.Peek queue)) None false (told_front l)
    front_told queue [] none =
        goes s.epoch (SuitsCall version (call.Peek queue)) None false reply.Empty refl tt tt (inr refl)
    front_told queue (front ∷ others) first =
        let Suits = SuitsCall version (call.Peek queue) in
        let at = in_line s (Gives queue) 0 front (ap (λ (l : List OpenPlace). slice_get l 0) first) in
        let has = giver_item s (holds s is) front at.0 queue at.1 in
        subst (λ (o : Option (List ℕ)). Ends s.epoch Suits None false (option_map (λ item. reply.Peeked item)
        o))
        (sym has.1) (goes s.epoch Suits None false (reply.Peeked has.0) refl
        (open_item_fits s (holds s is) front at.0 has.0 has.1) tt (inl (has.0, refl)))

    pub alone_ends : (c : Call)
        → Ends s.epoch (SuitsCall version c) (wait_of c) (stays_open c []) (told_alone s c)
    alone_ends (call.Put queue item) =
        inr (inl (record { suits = refl; stays_is = refl; put = refl; is = refl }))
    alone_ends (call.Transfer queue item wait) =
        unmet s.epoch (SuitsCall version (call.Transfer queue item wait)) wait reply.Nobody tt tt
        (λ told ends. inr ends)
    alone_ends (call.Take queue wait) =
        unmet s.epoch (SuitsCall version (call.Take queue wait)) wait reply.Empty tt tt
        (λ told ends. inr ends)
    alone_ends (call.Swap exchanger item wait) =
        unmet s.epoch (SuitsCall version (call.Swap exchanger item wait)) wait reply.TimedOut tt tt
        (λ told ends. inr ends)
    alone_ends (call.Count queue) =
        let items = length (line s (Gives queue)) in
        let consumers = length (line s (Takes queue)) in
        goes s.epoch (SuitsCall version (call.Count queue)) None false (reply.Counted items consumers) refl
        (counted_fits (Gives queue), counted_fits (Takes queue)) tt (items, consumers, refl)
    alone_ends (call.Peek queue) = front_told queue (line s (Gives queue)) refl
    alone_ends (call.Drain queue max) =
        goes s.epoch (SuitsCall version (call.Drain queue max)) (Some Now) false (reply.Drained []) refl
        (omega arith, All-nil FitsItem) tt ([], refl, omega arith)
