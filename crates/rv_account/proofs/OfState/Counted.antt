-- A state's clients are as many as said a hello, its open places as many as are open, and its waiters as many
-- as
-- wait.
use Rattle.rv_account.proofs.OfState.Words.{◌≡◌, ◌<◌, ◌∷◌, ◌∙◌, ℕ, zero, suc, Bool, true, false, List, []}
use Rattle.rv_account.proofs.OfState.Words.{map, Option}
use Rattle.rv_account.proofs.OfState.Words.{length, Some, None, option_and_then, refl, sym, ap, subst}
use Rattle.rv_account.proofs.OfState.Words.{arith, filter}
use Rattle.rv_account.proofs.OfState.Words.{slice_get, nat_cmp, get, keys, false≢true, same_Some, Wait, Key}
use Rattle.rv_account.proofs.OfState.Words.{wait_of}
use Rattle.rv_account.proofs.OfState.Words.{Account, call_in, NumberOf, SaidHello, Open, Waiting, ClientState}
use Rattle.rv_account.proofs.OfState.Words.{OpenPlace, State, client_at, place_list, waiter_of, IsStateOf}
use Rattle.std.proofs.Common.{add-one, ◌&&◌, T, is_some}
use Rattle.std.specs.Prelude.{Contains}
use Rattle.std.specs.List.Sorted.{IsStrictlyIncreasing}
use Rattle.std.specs.declared.cmp.Ordering.{Ordering}
use Rattle.std.specs.declared.cmp.Ordering.TheVariants.{Less, Equal, Greater}
use Rattle.std.specs.Ordering.{eq_by_cmp, is_lt}
use Rattle.std.specs.Cmp.{Equal-is, nat_cmp_total, ranked}
use Rattle.std.specs.FinMap.{FinMap, contains_key-keys, entries, entries_sorted, is_sorted, len, len-entries}
use Rattle.std.proofs.lemmas.Cmp.{eq_by_cmp_equiv}
use Rattle.std.proofs.lemmas.List.{length-map}
use Rattle.std.proofs.lemmas.Map.Views.{Contains-from_any, list_any-from_Contains}
use Rattle.rv_account.specs.state.State.{waiting_count}
use Rattle.rv_account.proofs.OfState.ClientParts.{client_known, said_known}
use Rattle.rv_account.proofs.OfState.Lined.{line_count, line_has, line_left}

-- ---- the keys of a map by numbers

first_holds : (a b : Bool) → T (a && b) → T a
first_holds true b h = tt
first_holds false b h = absurd h

second_holds : (a b : Bool) → T (a && b) → T b
second_holds true b h = h
second_holds false b h = absurd h

is_less : (r : Ordering) → T (is_lt r) → r ≡ Less
is_less Less h = refl
is_less Equal h = absurd h
is_less Greater h = absurd h

less_by_cmp : (x y : ℕ) → T (is_lt (nat_cmp x y)) → x < y
less_by_cmp x y h = ranked x y Less (sym (is_less (nat_cmp x y) h))

rises : {X : Type 0} (es : List (ℕ × X)) → T (is_sorted nat_cmp es) → IsStrictlyIncreasing (map (λ e. e.0) es)
rises [] h k below = absurd (omega arith)
rises (e ∷ []) h k below = absurd (omega arith)
rises (e ∷ f ∷ es) h zero below = less_by_cmp e.0 f.0 (first_holds _ _ (first_holds _ _ h))
rises (e ∷ f ∷ es) h (suc k) below =
    rw (add-one (suc k)) (rw (add-one k) at (rises (f ∷ es) (second_holds _ _ h) k (omega arith)))

pub keys_rise : {X : Type 0} (m : FinMap nat_cmp X) → IsStrictlyIncreasing (keys m)
keys_rise m = rises (entries m) (entries_sorted m)

same_number : (x y : ℕ) → eq_by_cmp nat_cmp x y ≡ true → x ≡ y
same_number x y is = ranked x y Equal (sym ((Equal-is (nat_cmp x y)).0 is))

pub has_key : {X : Type 0} (m : FinMap nat_cmp X) (k : ℕ) → Contains (keys m) k → is_some (get m k) ≡ true
has_key m k there =
    contains_key-keys m k ∙ list_any-from_Contains (eq_by_cmp_equiv nat_cmp_total) k (keys m) there

pub key_there : {X : Type 0} (m : FinMap nat_cmp X) (k : ℕ) → is_some (get m k) ≡ true → Contains (keys m) k
key_there m k has = Contains-from_any same_number k (keys m) (sym (contains_key-keys m k) ∙ has)

-- ---- clients

known_said : (a : Account) (s : State) (client : ℕ) (o : Option ClientState) → IsStateOf a s
    → client_at s client ≡ o → is_some o ≡ true → SaidHello a.entries client
known_said a s client None state is some = absurd (false≢true some)
known_said a s client (Some session) state is some =
    let opened = (client_known a s client session state is).opened in
    (opened.h, session.incarnation, opened.last.version, opened.last.hello)

pub clients_number : (a : Account) (s : State) → IsStateOf a s
    → NumberOf (SaidHello a.entries) (len s.clients)
clients_number a s state = record {
  places = keys s.clients;
  rising = keys_rise s.clients;
  are = λ client. (
    (λ there. known_said a s client (client_at s client) state refl (has_key s.clients client there)),
    (λ said. key_there s.clients client (ap is_some (said_known a s client state said).1)),
  );
  is = len-entries s.clients ∙ sym (length-map (entries s.clients) (λ e. e.0));
}

-- ---- what is open

pub open_number : (a : Account) (s : State) → IsStateOf a s
    → NumberOf (Open a.entries) (length s.open_places)
open_number a s state =
    subst (NumberOf (Open a.entries)) (length-map s.open_places (λ (o : OpenPlace). o.place))
    (line_count (Open a.entries) (place_list s.open_places) state.in_order)

-- ---- waiters

-- who waits at an arrival, if its call ever waits
waiter_by : (key : Key) (moment : ℕ) (wait : Option Wait) → (wait ≡ None → ⊥)
    → is_some (waiter_of key moment wait) ≡ true
waiter_by key moment None waits = absurd (waits refl)
waiter_by key moment (Some wait) waits = refl

module _ (a : Account) (s : State) (state : IsStateOf a s) (i : ℕ) (there : OpenPlace)
    (at : slice_get s.open_places i ≡ Some there) where
  same_call : (opened : Open a.entries there.place) → (state.arrivals i there at).call ≡ opened.call
  same_call opened =
      same_Some _ _ (sym (ap (option_and_then call_in) (state.arrivals i there at).arrived) ∙ opened.arrived)

  -- an open place with a waiter is one that waits
  pub with_waiter : is_some there.waiter ≡ true → Waiting a.entries there.place
  with_waiter some =
      let arrival = state.arrivals i there at in
      let opened : Open a.entries there.place =
      line_has (Open a.entries) s.open_places state.in_order i there at in
      record {
        is_open = opened;
        no_put = λ put. false≢true
            (sym (ap is_some
            (arrival.waiter
            ∙ ap (waiter_of arrival.key arrival.moment) (ap wait_of (same_call opened) ∙ put.1))) ∙ some);
      }

  -- and one that waits has a waiter
  pub waiter_there : Waiting a.entries there.place → is_some there.waiter ≡ true
  waiter_there waits =
      let arrival = state.arrivals i there at in
      ap is_some arrival.waiter
      ∙ waiter_by arrival.key arrival.moment (wait_of arrival.call)
      (λ none. waits.no_put (waits.is_open.stays.0, ap wait_of (sym (same_call waits.is_open)) ∙ none))

pub wait_queues_number : (a : Account) (s : State) → IsStateOf a s
    → NumberOf (Waiting a.entries) (waiting_count s)
wait_queues_number a s state =
    let wait_queues : List OpenPlace = filter (λ (o : OpenPlace). is_some o.waiter) s.open_places in
    subst (NumberOf (Waiting a.entries)) (length-map wait_queues (λ (o : OpenPlace). o.place))
    (line_count (Waiting a.entries) (place_list wait_queues)
    (line_left (Open a.entries) (Waiting a.entries) (λ (o : OpenPlace). is_some o.waiter) s.open_places
    state.in_order (with_waiter a s state) (waiter_there a s state) (λ r waits. waits.is_open)))
