-- An arrival that drains a queue: what it makes of the state.
use Rattle.std.proofs.Common.{◌≡◌, ◌∙◌, ◌++◌, ◌∷◌, ℕ, suc, List, [], Option, Some, None}
use Rattle.std.proofs.Common.{IsSome, refl, sym, ap, subst, slice_get, length, min}
use Rattle.std.proofs.Math.Seq.{take-append_seam}
use Rattle.std.proofs.lemmas.Bool.{false≢true}
use Rattle.std.proofs.lemmas.List.{take_min}
use Rattle.std.specs.Prelude.{option_and_then, option_map, take}
use Rattle.std.specs.List.{cons_option}
use Rattle.rv_text.specs.declared.message.Key.{Key}
use Rattle.rv_text.specs.declared.call.Call.{Call}
use Rattle.rv_text.specs.declared.call.Call.TheVariants as call
use Rattle.rv_text.specs.declared.call.Side.TheVariants.{Gives, Takes}
use Rattle.rv_text.specs.declared.answer.Reply.{Reply}
use Rattle.rv_text.specs.declared.answer.Reply.TheVariants as reply
use Rattle.rv_text.specs.Calls.{drains_of, side_of, wait_of}
use Rattle.rv_session.specs.declared.client.LastRequest.{LastRequest}
use Rattle.rv_session.specs.declared.client.LastRequest.TheVariants.{Fresh, Waits, RepliedTo, CancelledUnseen}
use Rattle.rv_session.specs.Clients.{place_waiting, with_last_number}
use Rattle.rv_account.specs.declared.entry.Act.TheVariants.{Arrive}
use Rattle.rv_account.specs.Account.{entry}
use Rattle.rv_account.specs.state.State.{ClientState, OpenPlace, State, Waiter, call_waiting, client_at, line}
use Rattle.rv_account.specs.state.State.{place_list}
use Rattle.rv_account.specs.state.State.{same_side}
use Rattle.rv_account.specs.state.After.{Following, Settled, advanced, answered, arrived, asked, closed}
use Rattle.rv_account.specs.state.After.{parked}
use Rattle.rv_account.specs.state.After.{request_after, settled_all, settled_at, told_met, told_own}
use Rattle.rv_account.specs.state.After.{told_partner}
use Rattle.rv_account.specs.state.After.{with_open, with_request}
use Rattle.rv_account.specs.state.Follows.{NumberIsNext}
use Rattle.rv_account.proofs.OfState.Words.{none-some, same_Some}
use Rattle.rv_account.proofs.OfState.Filtered.{filter_get, take_get}
use Rattle.rv_account.proofs.OfState.SideLines.{same_side_is}
use Rattle.rv_account.proofs.OfState.ToldClients.{get_tell_all, told_client, told_still}
use Rattle.rv_machine.specs.declared.tables.Holdings.{Holdings}
use Rattle.rv_machine.specs.Arriving.{Arrives}
use Rattle.rv_machine.specs.Ending.{counted}
use Rattle.rv_machine.specs.Machines.{IsConsistent, IsWaiter, keys_settled, state_in}
use Rattle.rv_machine.specs.open_places.OpenMap.{line_in}
use Rattle.rv_machine.specs.Taking.{TakesAll, items_of, settled_taken, told_taken, without_taken}
use Rattle.rv_machine.proofs.Concluded.{asked_in, asked_state}
use Rattle.rv_machine.proofs.Leaving.{having_met, none_more}
use Rattle.rv_machine.proofs.Lying.{no_exchanger, no_giver, no_looker}
use Rattle.rv_machine.proofs.Told.{asked_own}

-- ---- what drains

none_drains : (max : ℕ) → None ≡ Some max → ⊥
none_drains max is = none-some max is

takes_same : (q queue : ℕ) → Takes q ≡ Takes queue → q ≡ queue
takes_same q queue is = cc

-- the call of this side that takes so many at most
pub drain_is : (its : Call) (queue max : ℕ) → side_of its ≡ Takes queue → drains_of its ≡ Some max
    → its ≡ call.Drain queue max
drain_is (call.Put q item) queue max side drains = absurd (none_drains max drains)
drain_is (call.Transfer q item wait) queue max side drains = absurd (none_drains max drains)
drain_is (call.Take q wait) queue max side drains = absurd (none_drains max drains)
drain_is (call.Swap e item wait) queue max side drains = absurd (none_drains max drains)
drain_is (call.Count q) queue max side drains = absurd (none_drains max drains)
drain_is (call.Peek q) queue max side drains = absurd (none_drains max drains)
drain_is (call.Drain q n) queue max side drains =
    λ i. call.Drain (takes_same q queue side i) (same_Some n max drains i)

-- ---- what it tells whom

-- who waits and gives is told that its item was received
told_giver : (s : State) (waits taker : Key) (there : OpenPlace) (its : Call) (queue : ℕ)
    → side_of its ≡ Gives queue → IsSome (wait_of its)
    → told_met s waits its (Some taker) None ≡ told_taken s taker there waits
told_giver s waits taker there (call.Put q item) queue side wait = absurd (false≢true wait)
told_giver s waits taker there (call.Transfer q item wait) queue side waiting = refl
told_giver s waits taker there (call.Take q wait) queue side waiting = absurd (no_giver queue q side)
told_giver s waits taker there (call.Swap e item wait) queue side waiting = absurd (no_exchanger queue e side)
told_giver s waits taker there (call.Count q) queue side wait = absurd (no_looker queue q side)
told_giver s waits taker there (call.Peek q) queue side wait = absurd (no_looker queue q side)
told_giver s waits taker there (call.Drain q max) queue side wait = absurd (no_giver queue q side)

abbrev settled_with : Key → Reply → Settled
settled_with key told = record { key = key; reply = told }

abbrev settled_by_waiter : (Key → Option Reply) → Option Waiter → Option Settled
settled_by_waiter told waiter = option_and_then (λ w. option_map (settled_with w.key) (told w.key)) waiter

settled_same : (f g : OpenPlace → Key → Option Reply) (gone : List OpenPlace)
    → ((i : ℕ) (o : OpenPlace) → slice_get gone i ≡ Some o → settled_at f o ≡ settled_at g o)
    → settled_all f gone ≡ settled_all g gone
settled_same f g [] same = refl
settled_same f g (o ∷ gone) same =
    λ i. cons_option (same 0 o refl i) (settled_same f g gone (λ j x at. same (suc j) x at) i)

module _ (s : State) (is : IsConsistent s) (moment : ℕ) (key : Key) (queue max : ℕ) where
  abbrev drain : Call
  drain = call.Drain queue max

  told_same : (there : OpenPlace) (w : Waiter) → IsWaiter s there w → there.side ≡ Gives queue
      → told_partner s key drain there w.key ≡ told_taken s key there w.key
  told_same there w own side =
      ap (λ (o : Option ClientState). option_and_then (λ its. told_met s w.key its (Some key) None)
      (option_and_then (λ (c : ClientState). call_waiting c.request) o)) own.known
      ∙ ap (λ (r : LastRequest). option_and_then (λ its. told_met s w.key its (Some key) None)
      (call_waiting r)) own.waits
      ∙ told_giver s w.key key there own.call queue (sym own.side ∙ side) own.lasts.0

  by_waiter : (there : OpenPlace) (o : Option Waiter) → there.waiter ≡ o
      → ((w : Waiter) → there.waiter ≡ Some w → IsWaiter s there w) → there.side ≡ Gives queue
      → settled_at (told_partner s key drain) there ≡ settled_at (told_taken s key) there
  by_waiter there None none waiter side =
      ap (λ (x : Option Waiter). settled_by_waiter (told_partner s key drain there) x) none
      ∙ sym (ap (λ (x : Option Waiter). settled_by_waiter (told_taken s key there) x) none)
  by_waiter there (Some w) some waiter side =
      ap (λ (x : Option Waiter). settled_by_waiter (told_partner s key drain there) x) some
      ∙ ap (λ (r : Option Reply). option_map (λ y. settled_with w.key y) r)
      (told_same there w (waiter w some) side)
      ∙ sym (ap (λ (x : Option Waiter). settled_by_waiter (told_taken s key there) x) some)

  at_line : (i : ℕ) (there : OpenPlace) → slice_get (take max (line s (Gives queue))) i ≡ Some there
      → settled_at (told_partner s key drain) there ≡ settled_at (told_taken s key) there
  at_line i there at =
      let was = filter_get (λ (o : OpenPlace). same_side o.side (Gives queue)) s.open_places i there
      (take_get (line s (Gives queue)) max i there at) in
      by_waiter there there.waiter refl (λ w waits. is.wait_queues was.0 there w was.1 waits)
      (same_side_is there.side (Gives queue) was.2)

  own_told : (gone : List OpenPlace) → told_own s key drain gone ≡ Some (reply.Drained (items_of gone))
  own_told [] = refl
  own_told (o ∷ gone) = refl

  never_parks : (gone : List OpenPlace) → parked s moment key drain gone ≡ []
  never_parks [] = refl
  never_parks (o ∷ gone) = refl

  module _ (gone : List OpenPlace) (first : take max (line s (Gives queue)) ≡ gone) where
    pub settles_taken : settled_all (told_partner s key drain) gone ≡ settled_taken s key gone
    settles_taken =
        settled_same (told_partner s key drain) (told_taken s key) gone
        (λ i there at. at_line i there (ap (λ (l : List OpenPlace). slice_get l i) first ∙ at))

    no_more_open : with_open (closed s gone (settled_all (told_partner s key drain) gone))
        (parked s moment key drain gone) ≡ without_taken s key gone
    no_more_open =
        ap (with_open (closed s gone (settled_all (told_partner s key drain) gone))) (never_parks gone)
        ∙ none_more (closed s gone (settled_all (told_partner s key drain) gone))
        ∙ ap (closed s gone) settles_taken

    -- what it makes of a state
    pub drained_is : arrived s moment key drain
        ≡ record {
          after = asked (without_taken s key gone) key (RepliedTo drain (reply.Drained (items_of gone)));
          settles = settled_taken s key gone;
          reply = Some (reply.Drained (items_of gone));
        }
    drained_is =
        let told = own_told gone in
        ap (having_met s moment key drain) first ∙ λ i. record {
          after = asked (no_more_open i) key (request_after s.length drain (told i));
          settles = settles_taken i;
          reply = told i;
        }

-- ---- its own session

still_idle : (request : LastRequest) → place_waiting request ≡ None → (told : Reply)
    → answered told request ≡ request
still_idle Fresh idle told = refl
still_idle (Waits place its) idle told = absurd (none-some place (sym idle))
still_idle (RepliedTo its reply) idle told = refl
still_idle CancelledUnseen idle told = refl

-- a session of which nothing waits stays while others are settled
pub session_stays : (s : State) (gone : List OpenPlace) (xs : List Settled) (client : ℕ) (session :
    ClientState)
    → client_at s client ≡ Some session → place_waiting session.request ≡ None
    → client_at (closed s gone xs) client ≡ Some session
session_stays s gone xs client session known idle =
    get_tell_all xs s.clients client
    ∙ ap (λ (o : Option ClientState). option_map (told_client xs client) o) known
    ∙ ap (λ (r : LastRequest). Some (with_request session r))
    (told_still session.request (still_idle session.request idle) xs client)

-- and so its number stays next
pub still_next : (s : State) (gone : List OpenPlace) (xs : List Settled) (key : Key) → NumberIsNext s key
    → NumberIsNext (closed s gone xs) key
still_next s gone xs key is = record {
  session = is.session;
  of_session = record {
    epoch = is.of_session.epoch;
    there = session_stays s gone xs key.client is.session is.of_session.there is.idle;
    incarnation = is.of_session.incarnation;
  };
  next = is.next;
  idle = is.idle;
}

-- ---- what it makes of a machine

module _ (old mid : Holdings) (key : Key) (queue most : ℕ) (items : List (List ℕ)) (places : List ℕ)
    (takes : TakesAll old mid queue key most items places) where
  pub next_there : NumberIsNext (state_in old) key → NumberIsNext (state_in mid) key
  next_there is =
      subst (λ (s : State). NumberIsNext s key) (sym takes.state)
      (still_next (state_in old) takes.gone (settled_taken (state_in old) key takes.gone) key is)

  pub is_known_still : NumberIsNext (state_in old) key → IsSome (client_at (state_in mid) key.client)
  is_known_still is =
      subst (λ (o : Option ClientState). IsSome o) (sym (next_there is).of_session.there) refl

  first_gone : (max : ℕ) → most ≡ min max (length (line_in old.table (Gives queue)))
      → take max (line_in old.table (Gives queue)) ≡ takes.gone
  first_gone max is =
      sym (take_min max (line_in old.table (Gives queue)))
      ∙ ap (λ n. take n (line_in old.table (Gives queue))) (sym is ∙ sym takes.number)
      ∙ ap (take (length takes.gone)) takes.first
      ∙ take-append_seam takes.gone (line_in mid.table (Gives queue))

  drains_arrived : (moment max : ℕ) → IsConsistent (state_in old) → NumberIsNext (state_in old) key
      → most ≡ min max (length (line_in old.table (Gives queue)))
      → Arrives old (counted (asked_in mid key (RepliedTo (call.Drain queue max) (reply.Drained items)))
      moment)
      moment key (call.Drain queue max) (entry moment (Arrive key (call.Drain queue max)) places)
  drains_arrived moment max consistent next is =
      let s = state_in old in
      let drain = call.Drain queue max in
      let first = first_gone max is in
      let request : LastRequest = RepliedTo drain (reply.Drained items) in
      let made = drained_is s consistent moment key queue max takes.gone first in
      let there = next_there next in
      let same : asked (state_in mid) key request
      ≡ asked (without_taken s key takes.gone) key (RepliedTo drain (reply.Drained (items_of takes.gone)))
      = λ i. asked (takes.state i) key (RepliedTo drain (reply.Drained (takes.items_are i))) in
      record {
        made_is = ap (entry moment (Arrive key drain)) (takes.places_are ∙ ap place_list (sym first));
        state = ap (λ (x : State). advanced x moment) (asked_state mid key request ∙ same
            ∙ ap (λ (f : Following). f.after) (sym made));
        settles = takes.listed
            ∙ ap (λ (f : Following). old.settled.items ++ keys_settled f.settles) (sym made);
        session = with_last_number there.session key.number request;
        known = asked_own mid.clients.clients key request there.session there.of_session.there;
        told = ap (λ (l : List (List ℕ)). Some (reply.Drained l)) takes.items_are
            ∙ ap (λ (f : Following). f.reply) (sym made);
      }

  -- the same of a call that is that drain
  pub drains_by : (moment max : ℕ) (its : Call) → side_of its ≡ Takes queue → drains_of its ≡ Some max
      → IsConsistent (state_in old) → NumberIsNext (state_in old) key
      → most ≡ min max (length (line_in old.table (Gives queue)))
      → Arrives old (counted (asked_in mid key (RepliedTo its (reply.Drained items))) moment) moment key its
      (entry moment (Arrive key its) places)
  drains_by moment max its side drains consistent next is =
      subst (λ (x : Call). Arrives old (counted (asked_in mid key (RepliedTo x (reply.Drained items))) moment)
      moment
      key x (entry moment (Arrive key x) places)) (sym (drain_is its queue max side drains))
      (drains_arrived moment max consistent next is)
