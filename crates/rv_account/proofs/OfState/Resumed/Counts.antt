-- How many places are open, how many wait, and how many clients there are after an entry.
use Rattle.std.proofs.Common.{◌≡◌, ◌<◌, ◌≤◌, ◌+◌, ◌++◌, ◌∷◌, ◌∙◌, ◌&&◌, ℕ, zero, suc, List, [], Bool, true}
use Rattle.std.proofs.Common.{false}
use Rattle.std.proofs.Common.{cond, not, Option, Some, None, IsSome, is_some, inl, inr, length, refl, sym, ap}
use Rattle.std.proofs.Common.{subst, arith, slice_get, nat_eq}
use Rattle.std.specs.Prelude.{filter}
use Rattle.std.specs.List.{list_any}
use Rattle.std.specs.Cmp.{nat_cmp_total}
use Rattle.std.specs.FinMap.{get, insert, len, len-insert}
use Rattle.std.proofs.lemmas.Bool.{cases_eq, eq-eqb, false≢true}
use Rattle.std.proofs.lemmas.List.{length-append}
use Rattle.std.proofs.lemmas.List.Elements.{filter-append}
use Rattle.rv_text.specs.declared.call.Call.{Call}
use Rattle.rv_text.specs.declared.call.Wait.{Wait}
use Rattle.rv_text.specs.declared.call.Wait.TheVariants.{Forever, Millis, Now}
use Rattle.rv_text.specs.declared.message.Key.{Key}
use Rattle.rv_text.specs.declared.version.Version.{Version}
use Rattle.rv_text.specs.Calls.{side_of, wait_of}
use Rattle.rv_session.specs.declared.client.LastRequest.{LastRequest}
use Rattle.rv_session.proofs.Mapping.{len_known}
use Rattle.rv_account.specs.Calls.{need_by, need_of, opposite}
use Rattle.rv_account.specs.declared.entry.Act.{Act}
use Rattle.rv_account.specs.declared.entry.Act.TheVariants.{Arrive, Cancel, Hello, Tick}
use Rattle.rv_account.specs.state.After.{Settled, acted, but, cancelled, insert_told, lasts_by, met_by}
use Rattle.rv_account.specs.state.After.{opened_by}
use Rattle.rv_account.specs.state.After.{closed, parked, request_after, settled_all, tell, tell_all, told_own}
use Rattle.rv_account.specs.state.After.{told_partner, waiter_of, with_last, with_open}
use Rattle.rv_session.specs.declared.client.LastRequest.TheVariants.{CancelledUnseen, Fresh}
use Rattle.rv_account.specs.state.State.{ClientState, OpenPlace, State, Waiter, client_at, client_waits}
use Rattle.rv_account.specs.state.State.{waiting_count}
use Rattle.rv_account.proofs.OfState.Filtered.{get_any}
use Rattle.rv_account.proofs.OfState.GoneBy.{gone_by}
use Rattle.rv_account.proofs.OfState.OpensBy.{opens_by}
use Rattle.rv_account.proofs.OfState.PlacesAfter.{places_acted}
use Rattle.rv_account.proofs.OfState.Words.{none-some, same_Some}
use Rattle.rv_account.proofs.OfState.Resumed.Alone.{filter_short}
use Rattle.rv_account.proofs.OfState.Resumed.Sessions.{ClientMap, put_other, put_own}

-- ---- a list of which some are left

module _ {X : Type 0} (p q : X → Bool) where
  both_more : (b : Bool) (x : X) (l m : List X) (d : ℕ) → length l + d ≤ length m
      → length (cond b (x ∷ l) l) + d ≤ length (cond b (x ∷ m) m)
  both_more true x l m d most = omega (arith, most)
  both_more false x l m d most = most

  one_more : (b : Bool) (x : X) (l m : List X) (d : ℕ) → length l + d ≤ length m
      → length l + d ≤ length (cond b (x ∷ m) m)
  one_more true x l m d most = omega (arith, most)
  one_more false x l m d most = most

  by_head : (x : X) (l m : List X) (d : ℕ) → length (filter p l) + d ≤ length (filter p m) → (b : Bool)
      → length (filter p (cond b (x ∷ l) l)) + d ≤ length (filter p (x ∷ m))
  by_head x l m d most true = both_more (p x) x (filter p l) (filter p m) d most
  by_head x l m d most false = one_more (p x) x (filter p l) (filter p m) d most

  -- of those that are left no more pass than of all
  fewer_left : (xs : List X) → length (filter p (filter q xs)) + 0 ≤ length (filter p xs)
  fewer_left [] = omega arith
  fewer_left (x ∷ xs) = by_head x (filter q xs) xs 0 (fewer_left xs) (q x)

  gone_head : (x : X) (l m : List X) → length (filter p l) + 0 ≤ length (filter p m) → (b c : Bool)
      → b ≡ false
      → c ≡ true → length (filter p (cond b (x ∷ l) l)) + 1 ≤ length (cond c (x ∷ filter p m) (filter p m))
  gone_head x l m most true c goes passes = absurd (false≢true (sym goes))
  gone_head x l m most false true goes passes = omega (arith, most)
  gone_head x l m most false false goes passes = absurd (false≢true passes)

  -- and fewer where one that passes isn't left
  one_fewer : (xs : List X) (i : ℕ) (x : X) → slice_get xs i ≡ Some x → p x ≡ true → q x ≡ false
      → length (filter p (filter q xs)) + 1 ≤ length (filter p xs)
  one_fewer [] i x at passes goes = absurd (none-some x at)
  one_fewer (y ∷ xs) zero x at passes goes =
      let same : y ≡ x = same_Some _ _ at in
      gone_head y (filter q xs) xs (fewer_left xs) (q y) (p y) (ap q same ∙ goes) (ap p same ∙ passes)
  one_fewer (y ∷ xs) (suc i) x at passes goes =
      by_head y (filter q xs) xs 1 (one_fewer xs i x at passes goes) (q y)

-- ---- how many wait

abbrev pub wait_queues : List OpenPlace → ℕ
wait_queues all = length (filter (λ (o : OpenPlace). is_some o.waiter) all)

abbrev stays_by : List OpenPlace → OpenPlace → Bool
stays_by gone o = not (list_any (λ (other : OpenPlace). nat_eq other.place o.place) gone)

but_fewer : (all gone : List OpenPlace) → wait_queues (but all gone) ≤ wait_queues all
but_fewer all gone =
    let fewer = fewer_left (λ (o : OpenPlace). is_some o.waiter) (stays_by gone) all in omega (arith, fewer)

-- one that waits is gone
pub waiter_gone : (all gone : List OpenPlace) (i j : ℕ) (o x : OpenPlace) → slice_get all i ≡ Some o
    → is_some o.waiter ≡ true → slice_get gone j ≡ Some x → x.place ≡ o.place
    → wait_queues (but all gone) + 1 ≤ wait_queues all
waiter_gone all gone i j o x at waits stands same =
    one_fewer (λ (o : OpenPlace). is_some o.waiter) (stays_by gone) all i o at waits
    (ap not (get_any (λ (other : OpenPlace). nat_eq other.place o.place) gone j x stands
    (eq-eqb x.place o.place same)))

wait_queues_both : (all more : List OpenPlace) → wait_queues (all ++ more) ≡ wait_queues all + wait_queues
    more
wait_queues_both all more =
    ap length (filter-append (λ (o : OpenPlace). is_some o.waiter) all more)
    ∙ length-append (filter (λ (o : OpenPlace). is_some o.waiter) all)
    (filter (λ (o : OpenPlace). is_some o.waiter) more)

pub waiting_acted : (s : State) (moment : ℕ) (does : Act)
    → waiting_count (acted s moment does).after
    ≡ wait_queues (but s.open_places (gone_by s moment does)) + wait_queues (opens_by s moment does)
waiting_acted s moment does =
    ap wait_queues (places_acted s moment does)
    ∙ wait_queues_both (but s.open_places (gone_by s moment does)) (opens_by s moment does)

-- no more than before, and those that open
pub waiting_within : (s : State) (moment : ℕ) (does : Act)
    → waiting_count (acted s moment does).after ≤ waiting_count s + wait_queues (opens_by s moment does)
waiting_within s moment does =
    let is = waiting_acted s moment does in
    let fewer = but_fewer s.open_places (gone_by s moment does) in omega (arith, is, fewer)

-- ---- what a request needs

one_at_most : (b : Bool) (o : OpenPlace) → length (cond b (o ∷ []) []) ≤ 1
one_at_most true o = omega arith
one_at_most false o = omega arith

if_open : (c : Bool) (o : OpenPlace) → wait_queues (cond c (o ∷ []) []) ≤ 1
if_open true o = one_at_most (is_some o.waiter) o
if_open false o = omega arith

pub needs_one : (wait : Option Wait) → 1 ≤ need_by wait
needs_one None = omega arith
needs_one (Some Now) = omega arith
needs_one (Some (Millis zero)) = omega arith
needs_one (Some (Millis (suc n))) = omega arith
needs_one (Some Forever) = omega arith

opens_by_wait : (b : Bool) (wait : Option Wait) (key : Key) (moment : ℕ) (o : OpenPlace)
    → o.waiter ≡ waiter_of key moment wait
    → wait_queues (cond (b && lasts_by wait) (o ∷ []) []) + 1 ≤ need_by wait
opens_by_wait false wait key moment o is = let least = needs_one wait in omega arith
opens_by_wait true None key moment o is =
    let none : wait_queues (o ∷ []) ≡ 0 = ap (λ (w : Option Waiter). length (cond (is_some w) (o ∷ []) [])) is
    in
    omega arith
opens_by_wait true (Some Now) key moment o is = omega arith
opens_by_wait true (Some (Millis zero)) key moment o is = omega arith
opens_by_wait true (Some (Millis (suc n))) key moment o is =
    let most = if_open (lasts_by (Some (Millis (suc n)))) o in omega arith
opens_by_wait true (Some Forever) key moment o is = let most = if_open true o in omega arith

-- what opens waits only where the call needs two entries
pub parks_within : (s : State) (moment : ℕ) (key : Key) (c : Call) (met : List OpenPlace)
    → wait_queues (parked s moment key c met) + 1 ≤ need_of c
parks_within s moment key c [] =
    opens_by_wait (is_some (opposite (side_of c))) (wait_of c) key moment (opened_by s moment key c) refl
parks_within s moment key c (first ∷ others) = let least = needs_one (wait_of c) in omega arith

-- ---- how many are open

pub places_within : (s : State) (moment : ℕ) (does : Act)
    → length (acted s moment does).after.open_places
    ≤ length s.open_places + length (opens_by s moment does)
places_within s moment does =
    let is = ap length (places_acted s moment does)
    ∙ length-append (but s.open_places (gone_by s moment does)) (opens_by s moment does) in
    let short = filter_short (stays_by (gone_by s moment does)) s.open_places in
    omega (arith, is, short)

-- places that rise from one on, below another
few_from : (all : List OpenPlace) (k n : ℕ) → k ≤ n
    → ((i j : ℕ) (one other : OpenPlace) → i < j → slice_get all i ≡ Some one → slice_get all j ≡ Some other
    → one.place < other.place)
    → ((i : ℕ) (o : OpenPlace) → slice_get all i ≡ Some o → k ≤ o.place)
    → ((i : ℕ) (o : OpenPlace) → slice_get all i ≡ Some o → o.place < n) → length all + k ≤ n
few_from [] k n few rise above below = omega (arith, few)
few_from (x ∷ all) k n few rise above below =
    let least = above 0 x refl in
    let less : x.place < n = below 0 x refl in
    let rest = few_from all (x.place + 1) n (omega (arith, less))
    (λ i j one other order first second. rise (suc i) (suc j) one other (omega (arith, order)) first second)
    (λ i o at. let up : x.place < o.place = rise 0 (suc i) x o (omega arith) refl at in omega (arith, up))
    (λ i o at. below (suc i) o at) in
    omega (arith, rest, least)

pub few_below : (all : List OpenPlace) (n : ℕ)
    → ((i j : ℕ) (one other : OpenPlace) → i < j → slice_get all i ≡ Some one → slice_get all j ≡ Some other
    → one.place < other.place)
    → ((i : ℕ) (o : OpenPlace) → slice_get all i ≡ Some o → o.place < n) → length all ≤ n
few_below all n rise below =
    let few = few_from all 0 n (omega arith) rise (λ i o at. omega arith) below in omega (arith, few)

-- ---- how many entries there are

length_by : (s : State) (key : Key) (request : LastRequest) (o : Option ClientState)
    → (with_last s key request o).length ≡ s.length
length_by s key request None = refl
length_by s key request (Some session) = refl

length_cancelled : (s : State) (key : Key) (o : Option OpenPlace)
    → (cancelled s key o).after.length ≡ s.length
length_cancelled s key None = length_by s key CancelledUnseen (client_at s key.client)
length_cancelled s key (Some there) = refl

-- what an act makes of a state counts no entry yet
pub length_acted : (s : State) (moment : ℕ) (does : Act) → (acted s moment does).after.length ≡ s.length
length_acted s moment (Hello client incarnation version) = refl
length_acted s moment (Arrive key c) =
    let met = met_by s c in
    let opens : State = with_open (closed s met (settled_all (told_partner s key c) met))
    (parked s moment key c met) in
    length_by opens key (request_after s.length c (told_own s key c met)) (client_at opens key.client)
length_acted s moment (Cancel key) = length_cancelled s key (client_waits s key.client)
length_acted s moment Tick = refl

-- ---- how many clients there are

is_known : (o : Option ClientState) (session : ClientState) → o ≡ Some session → IsSome o
is_known o session is = ap is_some is

tell_len : (clients : ClientMap) (settled : Settled) (o : Option ClientState)
    → get clients settled.key.client ≡ o → len (insert_told clients settled o) ≡ len clients
tell_len clients settled None is = refl
tell_len clients settled (Some was) is =
    len_known clients settled.key.client _ (is_known (get clients settled.key.client) was is)

told_len : (clients : ClientMap) (settles : List Settled) → len (tell_all clients settles) ≡ len clients
told_len clients [] = refl
told_len clients (x ∷ settles) =
    told_len (tell clients x) settles ∙ tell_len clients x (get clients x.key.client) refl

asked_len : (s : State) (key : Key) (request : LastRequest) (o : Option ClientState)
    → client_at s key.client ≡ o → len (with_last s key request o).clients ≡ len s.clients
asked_len s key request None is = refl
asked_len s key request (Some session) is =
    len_known s.clients key.client _ (is_known (client_at s key.client) session is)

pub arrived_len : (s : State) (moment : ℕ) (key : Key) (c : Call)
    → len (acted s moment (Arrive key c)).after.clients ≡ len s.clients
arrived_len s moment key c =
    let met = met_by s c in
    let settles = settled_all (told_partner s key c) met in
    let opens : State = with_open (closed s met settles) (parked s moment key c met) in
    asked_len opens key (request_after s.length c (told_own s key c met)) (client_at opens key.client) refl
    ∙ told_len s.clients settles

cancelled_by : (s : State) (key : Key) (o : Option OpenPlace)
    → len (cancelled s key o).after.clients ≡ len s.clients
cancelled_by s key None = asked_len s key CancelledUnseen (client_at s key.client) refl
cancelled_by s key (Some there) = told_len s.clients (cancelled s key (Some there)).settles

pub cancelled_len : (s : State) (moment : ℕ) (key : Key)
    → len (acted s moment (Cancel key)).after.clients ≡ len s.clients
cancelled_len s moment key = cancelled_by s key (client_waits s key.client)

pub ticked_len : (s : State) (moment : ℕ) → len (acted s moment Tick).after.clients ≡ len s.clients
ticked_len s moment = told_len s.clients (acted s moment Tick).settles

-- who is known stays known
tell_known : (clients : ClientMap) (settled : Settled) (o : Option ClientState) (client : ℕ)
    → IsSome (get clients client) → IsSome (get (insert_told clients settled o) client)
tell_known clients settled None client known = known
tell_known clients settled (Some was) client known = elim (cases_eq client settled.key.client) [
  | inl same ↦ ap is_some (ap (get (insert_told clients settled (Some was))) same
      ∙ put_own clients settled.key.client _)
  | inr apart ↦ ap is_some (put_other clients settled.key.client client _ apart) ∙ known
]

told_known : (clients : ClientMap) (settles : List Settled) (client : ℕ) → IsSome (get clients client)
    → IsSome (get (tell_all clients settles) client)
told_known clients [] client known = known
told_known clients (x ∷ settles) client known =
    told_known (tell clients x) settles client (tell_known clients x (get clients x.key.client) client known)

insert_most : (m : ClientMap) (client : ℕ) (session : ClientState) → len (insert m client session) ≤ len m + 1
insert_most m client session =
    let is = len-insert nat_cmp_total m client session in
    let most = by_known (is_some (get m client)) in omega (arith, is, most)
  where
    by_known : (b : Bool) → cond b (len m) (len m + 1) ≤ len m + 1
    by_known true = omega arith
    by_known false = omega arith

module _ (s : State) (moment client incarnation : ℕ) (version : Version) where
  abbrev settles : List Settled
  settles = (acted s moment (Hello client incarnation version)).settles

  abbrev session : ClientState
  session = record { incarnation = incarnation; version = version; last = 0; request = Fresh }

  greeted_by : (most : ℕ) → len s.clients ≤ most → (client_at s client ≡ None → len s.clients < most)
      → (o : Option ClientState) → client_at s client ≡ o
      → len (acted s moment (Hello client incarnation version)).after.clients ≤ most
  greeted_by most few room None none =
      let less = room none in
      let told = told_len s.clients settles in
      let longer = insert_most (tell_all s.clients settles) client session in
      omega (arith, less, told, longer)
  greeted_by most few room (Some was) is =
      subst (λ n. n ≤ most) (sym (len_known (tell_all s.clients settles) client session
      (told_known s.clients settles client (is_known (client_at s client) was is))
      ∙ told_len s.clients settles)) few

  -- one more at most, and none where the client was known
  pub greeted_len : (most : ℕ) → len s.clients ≤ most → (client_at s client ≡ None → len s.clients < most)
      → len (acted s moment (Hello client incarnation version)).after.clients ≤ most
  greeted_len most few room = greeted_by most few room (client_at s client) refl
