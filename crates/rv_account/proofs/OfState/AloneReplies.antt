-- What an arrival that meets nobody is told: by its wait, or what it reads of the account before it.
use Rattle.rv_account.proofs.OfState.Words.{◌≡◌, ◌<◌, ◌∷◌, ◌∙◌, inl, inr, ℕ, zero, suc, List, [], length}
use Rattle.rv_account.proofs.OfState.Words.{take, Some}
use Rattle.rv_account.proofs.OfState.Words.{None, option_and_then, option_map, refl, sym, ap, subst, arith}
use Rattle.rv_account.proofs.OfState.Words.{slice_get}
use Rattle.rv_account.proofs.OfState.Words.{none-some, same_Some, Call, Wait, Now, Millis, Forever, Reply}
use Rattle.rv_account.proofs.OfState.Words.{Gives, Takes}
use Rattle.rv_account.proofs.OfState.Words.{item_of, wait_of, Entry, Account, call_at, call_in, Lasts, Drains}
use Rattle.rv_account.proofs.OfState.Words.{IsFrontItem, RepliesAt, RepliesUnmet, Met, OpenAt, gives_item}
use Rattle.rv_account.proofs.OfState.Words.{OpenPlace}
use Rattle.rv_account.proofs.OfState.Words.{State, line, IsStateOf}
use Rattle.std.proofs.Math.Seq.{take-append_seam}
use Rattle.rv_account.specs.Calls.{MayMeet}
use Rattle.rv_account.specs.rules.Replies.{Counts, HasNoItem}
use Rattle.rv_account.proofs.OfRules.Sides.{ComesToWait}
use Rattle.rv_account.specs.state.After.{told_alone, told_front, told_unmet}
use Rattle.rv_account.proofs.OfState.Coming.{more}
use Rattle.rv_account.proofs.OfState.Filtered.{get_map, mapped_there}
use Rattle.rv_account.proofs.OfState.MetPlaces.{line_of_there}
use Rattle.rv_account.proofs.OfState.SideLines.{line_counts, line_is, line_open, open_in_line}
use Rattle.rv_text.specs.declared.call.Call.TheVariants as call
use Rattle.rv_text.specs.declared.answer.Reply.TheVariants as reply

-- ---- by its wait

pub unmet_replies : (wait : Wait) (es : List Entry) (r : ℕ) (at_once told : Reply)
    → told_unmet wait at_once ≡ Some told → RepliesUnmet es r wait at_once told
unmet_replies Now es r at_once told is = sym (same_Some _ _ is)
unmet_replies (Millis zero) es r at_once told is = sym (same_Some _ _ is)
unmet_replies (Millis (suc n)) es r at_once told is = absurd (none-some told is)
unmet_replies Forever es r at_once told is = absurd (none-some told is)

pub unmet_lasts : (wait : Wait) (at_once : Reply) → told_unmet wait at_once ≡ None → Lasts (Some wait)
unmet_lasts Now at_once is = absurd (none-some at_once (sym is))
unmet_lasts (Millis zero) at_once is = absurd (none-some _ (sym is))
unmet_lasts (Millis (suc n)) at_once is = omega arith
unmet_lasts Forever at_once is = tt

-- ---- what a peek reads

module _ (a : Account) (s : State) (state : IsStateOf a s) (queue : ℕ) where
  -- the first of the line
  front_oldest : (front : OpenPlace) → slice_get (line s (Gives queue)) 0 ≡ Some front
      → (r : ℕ) → r < front.place → OpenAt a.entries (Gives queue) r → ⊥
  front_oldest front at r less opened =
      let found = open_in_line a s state (Gives queue) r opened in
      by_index found.0 found.1 found.2 found.3
    where
      by_index : (i : ℕ) (there : OpenPlace) → slice_get (line s (Gives queue)) i ≡ Some there
          → there.place ≡ r → ⊥
      by_index zero there stands is =
          let one : front ≡ there = same_Some _ _ (sym at ∙ stands) in
          let same : front.place ≡ there.place = ap (λ (o : OpenPlace). o.place) one in
          omega arith
      by_index (suc i) there stands is =
          let place = λ (o : OpenPlace). o.place in
          let rises : front.place < there.place =
          (line_is a s state (Gives queue)).rising 0 (suc i) front.place there.place (omega arith)
          (get_map place (line s (Gives queue)) 0 front at)
          (get_map place (line s (Gives queue)) (suc i) there stands) in
          omega arith

  -- its item is that of the arrival there
  front_hands : (front : OpenPlace) → slice_get (line s (Gives queue)) 0 ≡ Some front
      → (arrived : Call) → call_at a.entries front.place ≡ Some arrived → front.item ≡ item_of arrived
  front_hands front at arrived calls =
      let stands = line_of_there s (Some (Gives queue)) 0 front at in
      let arrival = state.arrivals stands.0 front stands.1 in
      arrival.item ∙ ap item_of (same_Some _ _ (sym (ap (option_and_then call_in) arrival.arrived) ∙ calls))

  pub front_item : (front : OpenPlace) (item : List ℕ) → slice_get (line s (Gives queue)) 0 ≡ Some front
      → front.item ≡ Some item → IsFrontItem a.entries queue item
  front_item front item at is =
      let there = line_open a s state (Gives queue) 0 front at in
      record {
        place = front.place;
        oldest = record { there = there; oldest = front_oldest front at };
        hands_over = sym (front_hands front at there.of_side.call there.of_side.arrived) ∙ is;
      }

  pub front_has_item : (front : OpenPlace) → slice_get (line s (Gives queue)) 0 ≡ Some front
      → (item : List ℕ) × (front.item ≡ Some item)
  front_has_item front at =
      let there = line_open a s state (Gives queue) 0 front at in
      let gives = gives_item there.of_side.call queue there.of_side.is in
      (gives.0, front_hands front at there.of_side.call there.of_side.arrived ∙ gives.1)

  pub no_front : line s (Gives queue) ≡ [] → HasNoItem a.entries queue
  no_front none r opened =
      let found = open_in_line a s state (Gives queue) r opened in
      none-some found.1 (sym (ap (λ (l : List OpenPlace). slice_get l found.0) none) ∙ found.2)

-- ---- the reply

module _ (a : Account) (s : State) (e : Entry) (state : IsStateOf a s)
    (unmet : Met (more a e) (length a.entries) → ⊥) where
  before_it : take (length a.entries) (more a e) ≡ a.entries
  before_it = take-append_seam a.entries (e ∷ [])

  peek_replies : (queue : ℕ) (front : List OpenPlace) (told : Reply) → line s (Gives queue) ≡ front
      → told_front front ≡ Some told → RepliesAt (more a e) (length a.entries) (call.Peek queue) told
  peek_replies queue [] told front is =
      inr (
        subst (λ (es : List Entry). HasNoItem es queue) (sym before_it) (no_front a s state queue front),
        sym (same_Some _ _ is),
      )
  peek_replies queue (first ∷ others) told front is =
      let by = mapped_there reply.Peeked first.item told is in
      let at = ap (λ (l : List OpenPlace). slice_get l 0) front in
      let item = front_item a s state queue first by.0 at by.1 in
      inl (by.0, subst (λ (es : List Entry). IsFrontItem es queue by.0) (sym before_it) item, sym by.2)

  pub alone_replies : (its : Call) (told : Reply) → told_alone s its ≡ Some told
      → Drains (more a e) (length a.entries) [] → RepliesAt (more a e) (length a.entries) its told
  alone_replies (call.Put queue item) told is drains = sym (same_Some _ _ is)
  alone_replies (call.Transfer queue item wait) told is drains =
      inr (unmet, unmet_replies wait (more a e) (length a.entries) reply.Nobody told is)
  alone_replies (call.Take queue wait) told is drains =
      inr (unmet, unmet_replies wait (more a e) (length a.entries) reply.Empty told is)
  alone_replies (call.Swap exchanger item wait) told is drains =
      inr (unmet, unmet_replies wait (more a e) (length a.entries) reply.TimedOut told is)
  alone_replies (call.Count queue) told is drains =
      let items : ℕ = length (line s (Gives queue)) in
      let consumers : ℕ = length (line s (Takes queue)) in
      let counts : Counts a.entries queue items consumers = record {
        items_are = line_counts a s state (Gives queue);
        consumers_are = line_counts a s state (Takes queue);
      } in (
        items,
        consumers,
        subst (λ (es : List Entry). Counts es queue items consumers) (sym before_it) counts,
        sym (same_Some _ _ is),
      )
  alone_replies (call.Peek queue) told is drains = peek_replies queue (line s (Gives queue)) told refl is
  alone_replies (call.Drain queue max) told is drains = ([], drains, sym (same_Some _ _ is))

-- ---- that it waits where it has none

call_waiting : (e : Entry) (its : Call) (wait : Wait) → call_in e.act ≡ Some its → MayMeet its
    → wait_of its ≡ Some wait → Lasts (Some wait) → ComesToWait e
call_waiting e its wait arrives meets waits lasts = record {
  call = its;
  arrives = arrives;
  stays = (meets, subst Lasts (sym waits) lasts);
  no_put = λ put. none-some wait (sym put.1 ∙ waits);
}

module _ (a : Account) (s : State) (e : Entry) (state : IsStateOf a s) where
  peek_told : (queue : ℕ) (front : List OpenPlace) → line s (Gives queue) ≡ front → told_front front ≡ None
      → ⊥
  peek_told queue [] front is = none-some reply.Empty (sym is)
  peek_told queue (first ∷ others) front is =
      let item = front_has_item a s state queue first (ap (λ (l : List OpenPlace). slice_get l 0) front) in
      none-some (reply.Peeked item.0) (sym is ∙ ap (option_map reply.Peeked) item.1)

  pub alone_waits : (its : Call) → call_in e.act ≡ Some its → told_alone s its ≡ None → ComesToWait e
  alone_waits (call.Put queue item) arrives is = absurd (none-some reply.Done (sym is))
  alone_waits (call.Transfer queue item wait) arrives is =
      call_waiting e (call.Transfer queue item wait) wait arrives refl refl
      (unmet_lasts wait reply.Nobody is)
  alone_waits (call.Take queue wait) arrives is =
      call_waiting e (call.Take queue wait) wait arrives refl refl
      (unmet_lasts wait reply.Empty is)
  alone_waits (call.Swap exchanger item wait) arrives is =
      call_waiting e (call.Swap exchanger item wait) wait arrives refl refl
      (unmet_lasts wait reply.TimedOut is)
  alone_waits (call.Count queue) arrives is = absurd (none-some _ (sym is))
  alone_waits (call.Peek queue) arrives is = absurd (peek_told queue (line s (Gives queue)) refl is)
  alone_waits (call.Drain queue max) arrives is = absurd (none-some _ (sym is))
