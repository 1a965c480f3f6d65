-- Where the text of the reply of an arrival's own request stands, where it has one when it comes.
use Rattle.rv_account.proofs.OfState.Words.{◌≡◌, ◌∷◌, ◌∙◌, ℕ, List, [], length, Option, Some, option_and_then}
use Rattle.rv_account.proofs.OfState.Words.{option_map, refl, sym, ap, subst, slice_get, none-some}
use Rattle.rv_account.proofs.OfState.Words.{same_Some, Key}
use Rattle.rv_account.proofs.OfState.Words.{Call}
use Rattle.rv_account.proofs.OfState.Words.{Gives, Takes, Reply, drains_of, item_of, side_of}
use Rattle.rv_account.proofs.OfState.Words.{Account}
use Rattle.rv_account.proofs.OfState.Words.{call_at, call_in, key_in, opposite, gives_item, call_read}
use Rattle.rv_account.proofs.OfState.Words.{reads_on}
use Rattle.rv_account.proofs.OfState.Words.{key_read, get-append_end, OpenPlace, State, Waiter, line}
use Rattle.rv_account.proofs.OfState.Words.{place_list}
use Rattle.rv_account.proofs.OfState.Words.{met_by}
use Rattle.rv_account.proofs.OfState.Words.{told_met, IsArrival}
use Rattle.rv_account.specs.declared.entry.Entry.{Entry}
use Rattle.rv_account.specs.declared.entry.Act.{Act}
use Rattle.rv_account.specs.declared.entry.Act.TheVariants.{Arrive}
use Rattle.std.proofs.Common.{filter_map}
use Rattle.std.specs.Prelude.{unwrap_or}
use Rattle.rv_account.specs.Account.{items_at, item_at, key_at, partners_items}
use Rattle.rv_text.specs.declared.call.Side.TheVariants.{Looks}
use Rattle.rv_text.specs.declared.call.Call.TheVariants as call
use Rattle.rv_text.specs.declared.answer.Reply.TheVariants as reply
use Rattle.rv_account.specs.state.After.{key_of_waiter, told_alone, told_front, told_own, told_with}
use Rattle.rv_account.proofs.OfState.Coming.{Comes, more}
use Rattle.rv_account.proofs.OfState.Filtered.{mapped_there}
use Rattle.rv_account.proofs.OfState.MetPlaces.{IsMet, is_met, line_of_there, partners_are}
use Rattle.rv_account.proofs.OfState.OwnReplies.{items_met}
use Rattle.rv_account.proofs.OfState.WaitQueuesThere.{waiter_waits}
use Rattle.rv_book.specs.reply_cache.Keeping.{source_in, source_named, source_of}
use Rattle.rv_book.proofs.KeptReplies.MetTexts.{met_text, unmet_text}
use Rattle.rv_book.proofs.KeptReplies.TextsAt.{HasTextAt}

-- an open place's item is that of the arrival there
pub place_item : (a : Account) (e : Entry) (there : OpenPlace) (item : List ℕ) → IsArrival a.entries there
    → there.item ≡ Some item → item_at (more a e) there.place ≡ Some item
place_item a e there item arrival is =
    let arrived : call_at (more a e) there.place ≡ Some arrival.call =
    reads_on call_read refl a.entries (e ∷ []) there.place arrival.call
    (ap (option_and_then call_in) arrival.arrived) in
    ap (option_and_then item_of) arrived ∙ sym arrival.item ∙ is

-- the key and the item of the last entry, an arrival
pub last_key : (a : Account) (e : Entry) (key : Key) (its : Call) → e.act ≡ Arrive key its
    → key_at (more a e) (length a.entries) ≡ Some key
last_key a e key its arrives = ap key_read (get-append_end a.entries e) ∙ ap key_in arrives

pub last_item : (a : Account) (e : Entry) (key : Key) (its : Call) (item : List ℕ) → e.act ≡ Arrive key its
    → item_of its ≡ Some item → item_at (more a e) (length a.entries) ≡ Some item
last_item a e key its item arrives is =
    let arrived : call_at (more a e) (length a.entries) ≡ Some its =
    ap call_read (get-append_end a.entries e) ∙ ap call_in arrives in
    ap (option_and_then item_of) arrived ∙ is

module _ (a : Account) (s : State) (e : Entry) (key : Key) (its : Call) (comes : Comes a s e)
    (arrives : e.act ≡ Arrive key its) (front : Option ℕ)
    (sees : (queue : ℕ) → side_of its ≡ Looks queue
    → front ≡ slice_get (place_list (line s (Gives queue))) 0) where
  abbrev n : ℕ
  n = length a.entries

  abbrev es : List Entry
  es = more a e

  abbrev items : List OpenPlace → List (List ℕ)
  items met = filter_map (λ (o : OpenPlace). o.item) met

  -- ---- where it meets some

  module _ (first : OpenPlace) (met : IsMet a e its first) where
    taker_at : (taker : Key) → key_of_waiter first ≡ Some taker → key_at es first.place ≡ Some taker
    taker_at taker is =
        let by = mapped_there (λ (w : Waiter). w.key) first.waiter taker is in
        let waits = waiter_waits a.entries first by.0 met.arrival met.is_open by.1 in
        reads_on key_read refl a.entries (e ∷ []) first.place taker
        (ap (option_and_then key_in) waits.arrived ∙ ap Some by.2)

    first_text : (told : Reply) (c : Call) → told_met s key c (key_of_waiter first) first.item ≡ Some told
        → HasTextAt es first.place told
    first_text told =
        met_text es first.place (key_of_waiter first) first.item told taker_at
        (λ item is. place_item a e first item met.arrival is) s key

    with_text : (others : List OpenPlace) (told : Reply) (c : Call)
        → ((queue : ℕ) → side_of c ≡ Takes queue → partners_items es n ≡ Some (items (first ∷ others)))
        → told_with s key c first others ≡ Some told
        → HasTextAt es (source_named n front (place_list (first ∷ others)) (drains_of c)) told
    with_text others told (call.Put queue item) drained is = subst (HasTextAt es first.place)
        (same_Some _ _ is) tt
    with_text others told (call.Transfer queue item wait) drained is =
        first_text told (call.Transfer queue item wait) is
    with_text others told (call.Take queue wait) drained is = first_text told (call.Take queue wait) is
    with_text others told (call.Swap exchanger item wait) drained is =
        first_text told (call.Swap exchanger item wait) is
    with_text others told (call.Count queue) drained is = absurd (none-some told is)
    with_text others told (call.Peek queue) drained is = absurd (none-some told is)
    with_text others told (call.Drain queue max) drained is =
        subst (HasTextAt es n) (same_Some _ _ is) (drained queue refl)

  -- ---- where it meets nobody

  peek_text : (queue : ℕ) (seen : List OpenPlace) (told : Reply) → line s (Gives queue) ≡ seen
      → front ≡ slice_get (place_list (line s (Gives queue))) 0 → told_front seen ≡ Some told
      → HasTextAt es (unwrap_or front n) told
  peek_text queue [] told by at is = subst (HasTextAt es (unwrap_or front n)) (same_Some _ _ is) tt
  peek_text queue (first ∷ others) told by at is =
      let has = mapped_there reply.Peeked first.item told is in
      let there = ap (λ (l : List OpenPlace). slice_get l 0) by in
      let stands = line_of_there s (Some (Gives queue)) 0 first there in
      let arrival = comes.state.arrivals stands.0 first stands.1 in
      let at_first : front ≡ Some first.place =
      at ∙ ap (λ (l : List OpenPlace). slice_get (place_list l) 0) by in
      subst (λ o. HasTextAt es (unwrap_or o n) told) (sym at_first)
      (subst (HasTextAt es first.place) has.2 (place_item a e first has.0 arrival has.1))

  alone_text : (told : Reply) (c : Call)
      → ((queue : ℕ) → side_of c ≡ Takes queue → partners_items es n ≡ Some [])
      → ((queue : ℕ) → side_of c ≡ Looks queue → front ≡ slice_get (place_list (line s (Gives queue))) 0)
      → told_alone s c ≡ Some told
      → HasTextAt es (source_named n front [] (drains_of c)) told
  alone_text told (call.Put queue item) drained seen is =
      subst (HasTextAt es (unwrap_or front n)) (same_Some _ _ is) tt
  alone_text told (call.Transfer queue item wait) drained seen is =
      unmet_text es (unwrap_or front n) wait reply.Nobody told is tt
  alone_text told (call.Take queue wait) drained seen is =
      unmet_text es (unwrap_or front n) wait reply.Empty told is tt
  alone_text told (call.Swap exchanger item wait) drained seen is =
      unmet_text es (unwrap_or front n) wait reply.TimedOut told is tt
  alone_text told (call.Count queue) drained seen is =
      subst (HasTextAt es (unwrap_or front n)) (same_Some _ _ is) tt
  alone_text told (call.Peek queue) drained seen is =
      peek_text queue (line s (Gives queue)) told refl (seen queue refl) is
  alone_text told (call.Drain queue max) drained seen is =
      subst (HasTextAt es n) (same_Some _ _ is) (drained queue refl)

  -- ---- the items that a drain takes

  has_item : (queue : ℕ) → side_of its ≡ Takes queue → (i : ℕ) (there : OpenPlace)
      → slice_get (met_by s its) i ≡ Some there
      → (item : List ℕ) × (there.item ≡ Some item) × (item_at es there.place ≡ Some item)
  has_item queue takes i there at =
      let met = is_met a s e key its comes arrives i there at in
      let giver = met.arrival.call in
      let side : side_of giver ≡ Gives queue = sym (same_Some _ _ (sym (ap opposite takes) ∙ met.opposes)) in
      let gives = gives_item giver queue side in
      let is : there.item ≡ Some gives.0 = met.arrival.item ∙ gives.1 in
      (gives.0, is, place_item a e there gives.0 met.arrival is)

  drained_items : (queue : ℕ) → side_of its ≡ Takes queue
      → partners_items es n ≡ Some (items (met_by s its))
  drained_items queue takes =
      ap (λ o. option_and_then (items_at es) (option_map (λ (x : Entry). x.partners) o))
      (get-append_end a.entries e)
      ∙ ap (items_at es) (partners_are a s e key its comes arrives)
      ∙ items_met es (met_by s its) (has_item queue takes)

  -- ---- the reply

  own_by : (told : Reply) (met : List OpenPlace) → met_by s its ≡ met → told_own s key its met ≡ Some told
      → HasTextAt es (source_named n front (place_list met) (drains_of its)) told
  own_by told [] by is =
      alone_text told its
      (λ queue takes. drained_items queue takes ∙ ap (λ met. Some (items met)) by) sees is
  own_by told (first ∷ others) by is =
      let met = is_met a s e key its comes arrives 0 first (ap (λ (l : List OpenPlace). slice_get l 0) by) in
      with_text first met others told its
      (λ queue takes. drained_items queue takes ∙ ap (λ met. Some (items met)) by) is

  pub own_text : (told : Reply) → told_own s key its (met_by s its) ≡ Some told
      → HasTextAt es (source_of n front e) told
  own_text told is =
      subst (λ (does : Act). HasTextAt es (source_in n front e.partners does) told) (sym arrives)
      (subst (λ (places : List ℕ). HasTextAt es (source_named n front places (drains_of its)) told)
      (sym (partners_are a s e key its comes arrives)) (own_by told (met_by s its) refl is))
