-- A state in which a request found nobody and stayed.
use Rattle.std.proofs.Common.{◌≡◌, ◌≢◌, ◌⊎◌, ◌<◌, ◌≤◌, ◌∙◌, ◌++◌, ◌∷◌, ◌+◌, ◌&&◌, ℕ, zero, suc, List, []}
use Rattle.std.proofs.Common.{Bool}
use Rattle.std.proofs.Common.{true, false, cond, Option, Some, None, IsSome, is_some, length, refl, sym, ap}
use Rattle.std.proofs.Common.{subst}
use Rattle.std.proofs.Common.{arith, inl, inr, slice_get, nat_eq}
use Rattle.std.specs.Prelude.{filter, take}
use Rattle.std.proofs.lemmas.List.{length-append}
use Rattle.std.proofs.lemmas.List.Elements.{filter-append}
use Rattle.std.proofs.lemmas.Bool.{cases_eq, false≢true, lt-ltb}
use Rattle.rv_text.specs.declared.message.Key.{Key}
use Rattle.rv_text.specs.declared.call.Call.{Call}
use Rattle.rv_text.specs.declared.call.Call.TheVariants as call
use Rattle.rv_text.specs.declared.call.Wait.{Wait}
use Rattle.rv_text.specs.declared.call.Wait.TheVariants.{Now, Millis, Forever}
use Rattle.rv_text.specs.declared.answer.Reply.{Reply}
use Rattle.rv_text.specs.declared.answer.Reply.TheVariants.{Done}
use Rattle.rv_text.specs.declared.answer.Reply.TheVariants as reply
use Rattle.rv_text.specs.Calls.{side_of, wait_of}
use Rattle.rv_session.specs.declared.client.ClientState.{ClientState}
use Rattle.rv_session.specs.declared.client.LastRequest.{LastRequest}
use Rattle.rv_session.specs.declared.client.LastRequest.TheVariants.{RepliedTo, Waits}
use Rattle.rv_session.specs.Clients.{clients_asked, place_waiting, with_last_number}
use Rattle.rv_account.specs.declared.entry.Act.TheVariants.{Arrive}
use Rattle.rv_account.specs.Calls.{Lasts, may_name, need_by, need_of, opposite}
use Rattle.rv_machine.specs.open_places.OpenMap.{most_counted}
use Rattle.rv_account.specs.rules.Steps.{max_moment}
use Rattle.rv_account.specs.state.State.{OpenPlace, State, Waiter, client_at}
use Rattle.rv_account.specs.state.After.{Following, advanced, following, lasts_by, met_by, opened_by}
use Rattle.rv_account.specs.state.After.{request_after}
use Rattle.rv_account.specs.state.After.{closed, parked, stays_open, told_alone, told_unmet, waiter_of}
use Rattle.rv_account.specs.state.After.{with_open}
use Rattle.rv_account.specs.state.Follows.{NumberIsNext}
use Rattle.rv_account.proofs.OfState.Filtered.{append_get}
use Rattle.rv_account.proofs.OfState.Words.{none-some, same_Some}
use Rattle.rv_model_queues.specs.Meeting.{StaysBy}
use Rattle.rv_machine.specs.open_places.OpenMap.{PlacesRise, found_at, opposed_in, count_waiting}
use Rattle.rv_machine.specs.Machines.{IsConsistent, IsWaiter, LiesThere, AwaitsPlace, last_key_in}
use Rattle.rv_machine.proofs.Asked.{arrived_by, asked_as}
use Rattle.rv_machine.proofs.OfOpenPlaces.Indexing.{stands_found}
use Rattle.rv_machine.proofs.OfOpenPlaces.Kept.{rise_more, in_end}
use Rattle.rv_machine.proofs.OfOpenPlaces.Parted.{but_none}
use Rattle.rv_machine.proofs.Told.{asked_other, asked_own}

-- ---- the state after it

-- one more is open, and it is its client's last request
abbrev pub stayed : State → ℕ → Key → Call → LastRequest → State
stayed s moment key call request =
    record {
      epoch = s.epoch;
      moment = moment;
      length = s.length + 1;
      open_places = s.open_places ++ opened_by s moment key call ∷ [];
      clients = clients_asked s.clients key request;
    }

take_none : (n : ℕ) → take n (let none : List OpenPlace = [] in none) ≡ []
take_none zero = refl
take_none (suc n) = refl

lasts : (wait : Option Wait) → Lasts wait → lasts_by wait ≡ true
lasts None it = refl
lasts (Some Now) it = absurd it
lasts (Some (Millis n)) it = lt-ltb 0 n it
lasts (Some Forever) it = refl

stays : (call : Call) → StaysBy (side_of call) (wait_of call) → stays_open call [] ≡ true
stays call it = both (is_some (opposite (side_of call))) (lasts_by (wait_of call)) it.0 (lasts (wait_of call)
    it.1)
  where
    both : (b c : Bool) → b ≡ true → c ≡ true → (b && c) ≡ true
    both true true first second = refl
    both true false first second = absurd (false≢true second)
    both false c first second = absurd (false≢true first)

unmet : (wait : Wait) (at_once : Reply) → Lasts (Some wait) → told_unmet wait at_once ≡ None
unmet Now at_once it = absurd it
unmet (Millis zero) at_once it = absurd (omega (arith, it))
unmet (Millis (suc n)) at_once it = refl
unmet Forever at_once it = refl

module _ (s : State) (moment : ℕ) (key : Key) (call : Call)
    (alone : opposed_in s.open_places (side_of call) ≡ []) (it : StaysBy (side_of call) (wait_of call)) where
  pub none_met : met_by s call ≡ []
  none_met = ap (take (may_name call)) alone ∙ take_none (may_name call)

  -- a put is done, and any other waits
  abbrev pub request : LastRequest
  request = request_after s.length call (told_alone s call)

  abbrev opens : State
  opens = with_open (closed s [] []) (parked s moment key call [])

  opens_are : opens.open_places ≡ s.open_places ++ opened_by s moment key call ∷ []
  opens_are = λ i. but_none s.open_places i
      ++ cond (stays call it i) (opened_by s moment key call ∷ []) []

  as_stayed : (following s moment (Arrive key call)).after ≡ stayed s moment key call request
  as_stayed =
      ap (λ (f : Following). advanced f.after moment) (arrived_by s moment key call [] none_met)
      ∙ ap (λ (x : State). advanced x moment) (asked_as opens key request)
      ∙ (λ i. record {
        epoch = s.epoch;
        moment = moment;
        length = s.length + 1;
        open_places = opens_are i;
        clients = clients_asked s.clients key request;
      })

  pub follows_as : following s moment (Arrive key call)
      ≡ record { after = stayed s moment key call request; settles = []; reply = told_alone s call }
  follows_as =
      let arrives = arrived_by s moment key call [] none_met in
      λ i. record { after = as_stayed i; settles = (arrives i).settles; reply = (arrives i).reply }

-- ---- it is consistent

-- the call of a put, or of a request that waits
pub put_or_waits : (s : State) (call : Call) → StaysBy (side_of call) (wait_of call)
    → ((wait_of call ≡ None) × (told_alone s call ≡ Some Done))
    ⊎ (IsSome (wait_of call) × (told_alone s call ≡ None))
put_or_waits s (call.Put queue item) it = inl (refl, refl)
put_or_waits s (call.Transfer queue item wait) it = inr (refl, unmet wait reply.Nobody it.1)
put_or_waits s (call.Take queue wait) it = inr (refl, unmet wait reply.Empty it.1)
put_or_waits s (call.Swap exchanger item wait) it = inr (refl, unmet wait reply.TimedOut it.1)
put_or_waits s (call.Count queue) it = absurd (false≢true it.0)
put_or_waits s (call.Peek queue) it = absurd (false≢true it.0)
put_or_waits s (call.Drain queue max) it = absurd it.1

-- ---- lists with one more

found_head : (y o x : OpenPlace) (ys : List OpenPlace) (r : ℕ) (b : Bool)
    → (found_at ys r ≡ Some x → found_at (ys ++ o ∷ []) r ≡ Some x) → cond b (Some y) (found_at ys r) ≡ Some x
    → cond b (Some y) (found_at (ys ++ o ∷ []) r) ≡ Some x
found_head y o x ys r true rest found = found
found_head y o x ys r false rest found = rest found

pub found_still : (all : List OpenPlace) (o x : OpenPlace) (r : ℕ) → found_at all r ≡ Some x
    → found_at (all ++ o ∷ []) r ≡ Some x
found_still [] o x r found = absurd (none-some x found)
found_still (y ∷ ys) o x r found = found_head y o x ys r (nat_eq y.place r) (found_still ys o x r) found

stands_last : (all : List OpenPlace) (o : OpenPlace) → slice_get (all ++ o ∷ []) (length all) ≡ Some o
stands_last [] o = refl
stands_last (x ∷ xs) o = stands_last xs o

one_or_none : (b : Bool) (o : OpenPlace) → length (cond b (o ∷ []) []) ≡ cond b 1 0
one_or_none true o = refl
one_or_none false o = refl

pub waits_more : (all : List OpenPlace) (o : OpenPlace)
    → count_waiting (all ++ o ∷ []) ≡ count_waiting all + cond (is_some o.waiter) 1 0
waits_more all o =
    ap length (filter-append (λ (x : OpenPlace). is_some x.waiter) all (o ∷ []))
    ∙ length-append (filter (λ (x : OpenPlace). is_some x.waiter) all)
    (filter (λ (x : OpenPlace). is_some x.waiter) (o ∷ []))
    ∙ ap (λ n. count_waiting all + n) (one_or_none (is_some o.waiter) o)

-- ---- the state is consistent

replied_waits_not : (call other : Call) (told : Reply) (place : ℕ) → RepliedTo call told ≡ Waits place other
    → ⊥
replied_waits_not call other told place is = cc

same_places : (p q : ℕ) (call other : Call) → Waits p call ≡ Waits q other → p ≡ q
same_places p q call other is = cc

lies : (s : State) (moment : ℕ) (key : Key) (call : Call) → StaysBy (side_of call) (wait_of call)
    → (opened_by s moment key call).waiter ≡ None → LiesThere (opened_by s moment key call)
lies s moment key (call.Put queue item) it none = record {
  queue = queue;
  side = refl;
  item = item;
  has =
      refl;
}
lies s moment key (call.Transfer queue item wait) it none = absurd (none-some _ (sym none))
lies s moment key (call.Take queue wait) it none = absurd (none-some _ (sym none))
lies s moment key (call.Swap exchanger item wait) it none = absurd (none-some _ (sym none))
lies s moment key (call.Count queue) it none = absurd (false≢true it.0)
lies s moment key (call.Peek queue) it none = absurd (false≢true it.0)
lies s moment key (call.Drain queue max) it none = absurd it.1

waits_two : (wait : Option Wait) → Lasts wait → need_by wait ≡ 1 + cond (is_some wait) 1 0
waits_two None it = refl
waits_two (Some Now) it = absurd it
waits_two (Some (Millis zero)) it = absurd (omega (arith, it))
waits_two (Some (Millis (suc n))) it = refl
waits_two (Some Forever) it = refl

some_waiter : (key : Key) (moment : ℕ) (wait : Option Wait)
    → is_some {T = Waiter} (waiter_of key moment wait) ≡ is_some {T = Wait} wait
some_waiter key moment None = refl
some_waiter key moment (Some wait) = refl

its_waiter : (key : Key) (moment : ℕ) (wait : Option Wait) (w : Waiter) → waiter_of key moment wait ≡ Some w
    → (record { key = key; since = moment } ≡ w) × IsSome wait
its_waiter key moment None w is = absurd (none-some w is)
its_waiter key moment (Some wait) w is = (same_Some _ _ is, refl)

module _ (s : State) (is : IsConsistent s) (moment : ℕ) (key : Key) (call : Call) (next : NumberIsNext s key)
    (it : StaysBy (side_of call) (wait_of call)) (time : moment ≤ max_moment)
    (space : s.length + count_waiting s.open_places + need_of call ≤ most_counted) where
  abbrev its_request : LastRequest
  its_request = request_after s.length call (told_alone s call)

  abbrev t : State
  t = stayed s moment key call its_request

  abbrev o : OpenPlace
  o = opened_by s moment key call

  abbrev own : ClientState
  own = with_last_number next.session key.number its_request

  known : client_at t key.client ≡ Some own
  known = asked_own s.clients key its_request next.session next.of_session.there

  others : (client : ℕ) → client ≢ key.client → client_at t client ≡ client_at s client
  others client apart = asked_other s.clients key client its_request apart

  rise : PlacesRise t.open_places
  rise = rise_more s.open_places o is.rise is.below

  in_all : (i : ℕ) (x : OpenPlace) → slice_get t.open_places i ≡ Some x
      → ((j : ℕ) × (slice_get s.open_places j ≡ Some x)) ⊎ (o ≡ x)
  in_all i x at = elim (append_get s.open_places (o ∷ []) i x at) [
    | inl before ↦ inl before
    | inr last ↦ inr (in_end o x last.0 last.1)
  ]

  -- nothing of the client waited
  idle_client : (client place : ℕ) (session : ClientState) (other : Call) → client_at s client ≡ Some session
      → session.request ≡ Waits place other → client ≢ key.client
  idle_client client place session other its waits same =
      let session_is = same_Some _ _ (sym next.of_session.there ∙ ap (client_at s) (sym same) ∙ its) in
      none-some place (sym next.idle ∙ ap (λ (c : ClientState). place_waiting c.request) session_is
      ∙ ap place_waiting waits)

  waiter_still : (there : OpenPlace) (w : Waiter) → IsWaiter s there w → IsWaiter t there w
  waiter_still there w was = record {
    session = was.session;
    known = others w.key.client (idle_client w.key.client there.place was.session was.call was.known
        was.waits)
        ∙ was.known;
    key_is = was.key_is;
    call = was.call;
    waits = was.waits;
    side = was.side;
    item = was.item;
    lasts = was.lasts;
  }

  key_own : key ≡ last_key_in t key.client own
  key_own =
      let epoch = next.of_session.epoch in
      let incarnation = next.of_session.incarnation in
      λ i. record {
        epoch = epoch i;
        client = key.client;
        incarnation = sym incarnation i;
        number = key.number;
      }

  own_waits : IsSome (wait_of call) → its_request ≡ Waits s.length call
  own_waits some = elim (put_or_waits s call it) [
    | inl put ↦ absurd (false≢true (ap (λ (w : Option Wait). is_some w) (sym put.0) ∙ some))
    | inr waits ↦ ap (request_after s.length call) waits.1
  ]

  own_waiter : (w : Waiter) → o.waiter ≡ Some w → IsWaiter t o w
  own_waiter w has =
      let its = its_waiter key moment (wait_of call) w has in
      subst (λ (v : Waiter). IsWaiter t o v) its.0 (record {
        session = own;
        known = known;
        key_is = key_own;
        call = call;
        waits = own_waits its.1;
        side = refl;
        item = refl;
        lasts = (its.1, it.1);
      })

  waits_for : (client : ℕ) (session : ClientState) (place : ℕ) (other : Call)
      → (client ≡ key.client) ⊎ (client ≢ key.client) → client_at t client ≡ Some session
      → session.request ≡ Waits place other → AwaitsPlace t client place
  waits_for client session place other (inl same) its asked =
      let session_is : own ≡ session = same_Some _ _ (sym known ∙ ap (client_at t) (sym same) ∙ its) in
      let waits : its_request ≡ Waits place other = ap (λ (c : ClientState). c.request) session_is ∙ asked in
      elim (put_or_waits s call it) [
        | inl put ↦ absurd (replied_waits_not call other Done place
            (sym (ap (request_after s.length call) put.1) ∙ waits))
        | inr long ↦
            let at : s.length ≡ place = same_places s.length place call other
            (sym (ap (request_after s.length call) long.1) ∙ waits) in
            record {
              there = o;
              found = ap (found_at t.open_places) (sym at)
                  ∙ stands_found t.open_places (length s.open_places) o rise (stands_last s.open_places o);
              waiter = record { key = key; since = moment };
              waits = by_wait (wait_of call) long.0;
              client_is = sym same;
            }
      ]
    where
      by_wait : (wait : Option Wait) → IsSome wait
          → waiter_of key moment wait ≡ Some (record { key = key; since = moment })
      by_wait None some = absurd (false≢true some)
      by_wait (Some w) some = refl
  waits_for client session place other (inr apart) its asked =
      let was = is.clients client session place other (sym (others client apart) ∙ its) asked in
      record {
        there = was.there;
        found = found_still s.open_places o was.there place was.found;
        waiter = was.waiter;
        waits = was.waits;
        client_is = was.client_is;
      }

  pub stayed_consistent : IsConsistent t
  stayed_consistent = record {
    rise = rise;
    below = λ i one at. elim (in_all i one at) [
      | inl before ↦ let less : one.place < s.length = is.below before.0 one before.1 in omega arith
      | inr last ↦ subst (λ (x : OpenPlace). x.place < s.length + 1) last (omega arith)
    ];
    wait_queues = λ i there w at has. elim (in_all i there at) [
      | inl before ↦ waiter_still there w (is.wait_queues before.0 there w before.1 has)
      | inr last ↦ subst (λ (x : OpenPlace). IsWaiter t x w) last
          (own_waiter w (ap (λ (x : OpenPlace). x.waiter) last ∙ has))
    ];
    lie = λ i there at none. elim (in_all i there at) [
      | inl before ↦ is.lie before.0 there before.1 none
      | inr last ↦ subst (λ (x : OpenPlace). LiesThere x) last
          (lies s moment key call it (ap (λ (x : OpenPlace). x.waiter) last ∙ none))
    ];
    clients = λ client session place other its asked.
        waits_for client session place other (cases_eq client key.client) its asked;
    time = time;
    space = omega (
      arith,
      space,
      waits_more s.open_places o,
      waits_two (wait_of call) it.1,
      ap (λ (b : Bool). let n : ℕ = cond b 1 0 in n) (some_waiter key moment (wait_of call)),
    );
  }

  pub known_after : client_at t key.client ≡ Some own
  known_after = known
