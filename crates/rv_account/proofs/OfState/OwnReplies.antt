-- The reply of an arrival's own request, where it has one when it comes, and that it waits where it has none.
use Rattle.rv_account.proofs.OfState.Words.{◌≡◌, ◌∷◌, ◌∙◌, inl, inr, ℕ, suc, List, [], length, Option, Some}
use Rattle.rv_account.proofs.OfState.Words.{None}
use Rattle.rv_account.proofs.OfState.Words.{option_and_then, option_map, refl, sym, ap, subst, cons_option}
use Rattle.rv_account.proofs.OfState.Words.{slice_get}
use Rattle.rv_account.proofs.OfState.Words.{none-some, same_Some, Key, Version, Call, Wait, Gives, Takes}
use Rattle.rv_account.proofs.OfState.Words.{Reply}
use Rattle.rv_account.proofs.OfState.Words.{drains_of, item_of, side_of, wait_of, Entry, Arrive, Account}
use Rattle.rv_account.proofs.OfState.Words.{call_in}
use Rattle.rv_account.proofs.OfState.Words.{key_in, opposite, Drains, GetsItem, MeetsKey, RepliesAt}
use Rattle.rv_account.proofs.OfState.Words.{AskedIn, Met}
use Rattle.rv_account.proofs.OfState.Words.{Waiting, gives_item, call_read, reads_on, key_read}
use Rattle.rv_account.proofs.OfState.Words.{get-append_end}
use Rattle.rv_account.proofs.OfState.Words.{ClientState, OpenPlace, State, Waiter, client_at, place_list}
use Rattle.rv_account.proofs.OfState.Words.{met_by}
use Rattle.rv_account.proofs.OfState.Words.{told_met, session_version, waiter_of}
use Rattle.std.proofs.Common.{filter_map}
use Rattle.rv_account.specs.Account.{items_at, item_at, just, partners_items}
use Rattle.rv_account.proofs.Items.{joined}
use Rattle.rv_account.proofs.OfRules.CallKinds.{IsKind, kind_at}
use Rattle.rv_account.proofs.OfRules.Sides.{Waiting-last, last_unmet}
use Rattle.rv_account.proofs.OfRules.Versions.{asked_last}
use Rattle.rv_account.specs.state.After.{key_of_waiter, told_own, told_with}
use Rattle.rv_account.proofs.OfState.AloneReplies.{alone_replies, alone_waits}
use Rattle.rv_account.proofs.OfState.Coming.{Comes, more}
use Rattle.rv_account.proofs.OfState.KnownClients.{found_client, has_client}
use Rattle.rv_account.proofs.OfState.Filtered.{mapped_there}
use Rattle.rv_account.proofs.OfState.MetPlaces.{IsMet, is_met, partners_are}
use Rattle.rv_account.proofs.OfState.MetReplies.{met_replies, met_told}
use Rattle.rv_account.proofs.OfState.WaitQueuesThere.{waiter_waits}
use Rattle.rv_text.specs.declared.call.Call.TheVariants as call
use Rattle.rv_text.specs.declared.answer.Reply.TheVariants as reply

-- ---- the items that a drain takes

pub items_met : (es : List Entry) (met : List OpenPlace)
    → ((i : ℕ) (there : OpenPlace) → slice_get met i ≡ Some there
    → (item : List ℕ) × (there.item ≡ Some item) × (item_at es there.place ≡ Some item))
    → items_at es (place_list met) ≡ Some (filter_map (λ (o : OpenPlace). o.item) met)
items_met es [] each = refl
items_met es (first ∷ others) each =
    let item = each 0 first refl in
    let rest : List (List ℕ) = filter_map (λ (o : OpenPlace). o.item) others in
    let behind = items_met es others (λ i there at. each (suc i) there at) in
    joined es first.place (place_list others) item.0 rest item.2 behind
    ∙ ap (λ o. Some (cons_option o rest)) (sym item.1)

-- ---- whom it meets

-- who takes waits
taker_waits : (wait : Option Wait) (item : Option (List ℕ)) (queue : ℕ) → IsKind (Takes queue) wait item
    → (it : Wait) × (wait ≡ Some it)
taker_waits (Some it) item queue kind = (it, refl)
taker_waits None None queue kind = absurd kind
taker_waits None (Some item) queue kind = absurd kind

module _ (a : Account) (s : State) (e : Entry) (key : Key) (its : Call) (comes : Comes a s e)
    (arrives : e.act ≡ Arrive key its) where
  abbrev n : ℕ
  n = length a.entries

  abbrev es : List Entry
  es = more a e

  named : key_in e.act ≡ Some key
  named = ap key_in arrives

  session : (session : ClientState) × (client_at s key.client ≡ Some session)
  session =
      let has = (comes.follows.numbers.of_session key named).1 in
      has_client a key.client (client_at s key.client) (comes.state.clients key.client)
      (has.0, key.incarnation, has.1.version, has.1.hello)

  asked : (version : Version) → session_version s key ≡ Some version → AskedIn es n version
  asked version is =
      let by = mapped_there (λ (c : ClientState). c.version) (client_at s key.client) version is in
      let client = found_client a key.client (client_at s key.client) by.0 (comes.state.clients key.client)
      by.1 in
      subst (AskedIn es n) by.2 (asked_last a.entries e key by.0.incarnation by.0.version named client.opened)

  -- ---- where it meets some

  module _ (first : OpenPlace) (met : IsMet a e its first) where
    meets : (taker : Key) → key_of_waiter first ≡ Some taker → MeetsKey es n taker
    meets taker is =
        let by = mapped_there (λ (w : Waiter). w.key) first.waiter taker is in
        let waits = waiter_waits a.entries first by.0 met.arrival met.is_open by.1 in
        record {
          place = first.place;
          meet = inl met.names;
          named = reads_on key_read refl a.entries (e ∷ []) first.place taker
              (ap (option_and_then key_in) waits.arrived ∙ ap Some by.2);
        }

    given : (item : List ℕ) → first.item ≡ Some item → GetsItem es n item
    given item is = record {
      giver = first.place;
      call = met.arrival.call;
      meet = inr met.names;
      arrived = reads_on call_read refl a.entries (e ∷ []) first.place met.arrival.call
          (ap (option_and_then call_in) met.arrival.arrived);
      hands_over = sym met.arrival.item ∙ is;
    }

    met_one : Met es n
    met_one = record { later = n; earlier = first.place; names = met.names; part = inl refl }

    by_first : (told : Reply) (c : Call) → told_met s key c (key_of_waiter first) first.item ≡ Some told
        → RepliesAt es n c told
    by_first told = met_replies es n s key (key_of_waiter first) first.item told met_one asked meets given

    with_replies : (others : List OpenPlace) (told : Reply) (c : Call)
        → ((queue : ℕ) → side_of c ≡ Takes queue → Drains es n (filter_map (λ o. o.item) (first ∷ others)))
        → told_with s key c first others ≡ Some told → RepliesAt es n c told
    with_replies others told (call.Put queue item) drains is = sym (same_Some _ _ is)
    with_replies others told (call.Transfer queue item wait) drains is =
        by_first told (call.Transfer queue item wait) is
    with_replies others told (call.Take queue wait) drains is = by_first told (call.Take queue wait) is
    with_replies others told (call.Swap exchanger item wait) drains is =
        by_first told (call.Swap exchanger item wait) is
    with_replies others told (call.Count queue) drains is = absurd (none-some told is)
    with_replies others told (call.Peek queue) drains is = absurd (none-some told is)
    with_replies others told (call.Drain queue max) drains is =
        (filter_map (λ (o : OpenPlace). o.item) (first ∷ others), drains queue refl, sym (same_Some _ _ is))

    -- it is told something
    taken : (c : Call) → opposite (side_of c) ≡ Some (side_of met.arrival.call) → (queue : ℕ)
        → side_of c ≡ Gives queue → (taker : Key) × (key_of_waiter first ≡ Some taker)
    taken c opposes queue gives =
        let arrival = met.arrival in
        let side : side_of arrival.call ≡ Takes queue =
        sym (same_Some _ _ (sym (ap opposite gives) ∙ opposes)) in
        let wait = taker_waits (wait_of arrival.call) (item_of arrival.call) queue
        (kind_at arrival.call (Takes queue) side) in
        let waiter = waiter_of arrival.key arrival.moment in
        (arrival.key, ap (option_map (λ (w : Waiter). w.key)) (arrival.waiter ∙ ap waiter wait.1))

    by_first_told : (c : Call) (wait : Wait) → wait_of c ≡ Some wait → drains_of c ≡ None
        → opposite (side_of c) ≡ Some (side_of met.arrival.call)
        → told_met s key c (key_of_waiter first) first.item ≡ None → ⊥
    by_first_told c wait waits drains opposes is =
        let told = met_told s key met.arrival.call wait (key_of_waiter first) first.item session.0 session.1
        met.arrival.item c waits drains opposes (taken c opposes) in
        none-some told.0 (sym is ∙ told.1)

    with_told : (others : List OpenPlace) (c : Call) → opposite (side_of c) ≡ Some (side_of met.arrival.call)
        → told_with s key c first others ≡ None → ⊥
    with_told others (call.Put queue item) opposes is = none-some reply.Done (sym is)
    with_told others (call.Transfer queue item wait) opposes is =
        by_first_told (call.Transfer queue item wait) wait refl refl opposes is
    with_told others (call.Take queue wait) opposes is =
        by_first_told (call.Take queue wait) wait refl refl opposes is
    with_told others (call.Swap exchanger item wait) opposes is =
        by_first_told (call.Swap exchanger item wait) wait refl refl opposes is
    with_told others (call.Count queue) opposes is = none-some _ opposes
    with_told others (call.Peek queue) opposes is = none-some _ opposes
    with_told others (call.Drain queue max) opposes is = none-some _ (sym is)

  -- ---- the reply

  partners_read : partners_items es n ≡ items_at es e.partners
  partners_read =
      ap (λ o. option_and_then (items_at es) (option_map (λ (x : Entry). x.partners) o))
      (get-append_end a.entries e)

  has_item : (queue : ℕ) → side_of its ≡ Takes queue → (i : ℕ) (there : OpenPlace)
      → slice_get (met_by s its) i ≡ Some there
      → (item : List ℕ) × (there.item ≡ Some item) × (item_at es there.place ≡ Some item)
  has_item queue takes i there at =
      let met = is_met a s e key its comes arrives i there at in
      let giver = met.arrival.call in
      let side : side_of giver ≡ Gives queue = sym (same_Some _ _ (sym (ap opposite takes) ∙ met.opposes)) in
      let gives = gives_item giver queue side in
      let arrived = reads_on call_read refl a.entries (e ∷ []) there.place giver
      (ap (option_and_then call_in) met.arrival.arrived) in
      (gives.0, met.arrival.item ∙ gives.1, ap (option_and_then item_of) arrived ∙ gives.1)

  drained : (queue : ℕ) → side_of its ≡ Takes queue
      → Drains es n (filter_map (λ (o : OpenPlace). o.item) (met_by s its))
  drained queue takes =
      partners_read ∙ ap (items_at es) (partners_are a s e key its comes arrives)
      ∙ items_met es (met_by s its) (has_item queue takes)

  none_met : met_by s its ≡ [] → e.partners ≡ just None
  none_met none = partners_are a s e key its comes arrives ∙ ap place_list none

  own_by : (told : Reply) (met : List OpenPlace) → met_by s its ≡ met → told_own s key its met ≡ Some told
      → RepliesAt es n its told
  own_by told [] by is =
      alone_replies a s e comes.state (last_unmet a e comes.legal (none_met by)) its told is
      (partners_read ∙ ap (items_at es) (none_met by))
  own_by told (first ∷ others) by is =
      let met = is_met a s e key its comes arrives 0 first (ap (λ (l : List OpenPlace). slice_get l 0) by) in
      let drains = λ (l : List OpenPlace). Drains es n (filter_map (λ (o : OpenPlace). o.item) l) in
      with_replies first met others told its (λ queue takes. subst drains by (drained queue takes)) is

  waits_by : (met : List OpenPlace) → met_by s its ≡ met → told_own s key its met ≡ None → Waiting es n
  waits_by [] by is =
      Waiting-last a e comes.legal (none_met by) (alone_waits a s e comes.state its (ap call_in arrives) is)
  waits_by (first ∷ others) by is =
      let met = is_met a s e key its comes arrives 0 first (ap (λ (l : List OpenPlace). slice_get l 0) by) in
      absurd (with_told first met others its met.opposes is)

  pub own_told : (told : Reply) → told_own s key its (met_by s its) ≡ Some told → RepliesAt es n its told
  own_told told is = own_by told (met_by s its) refl is

  pub own_waiting : told_own s key its (met_by s its) ≡ None → Waiting es n
  own_waiting is = waits_by (met_by s its) refl is
