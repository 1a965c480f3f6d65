-- How many requests wait for which no connection does: all that wait less those of which some connection
-- hears.
use Rattle.std.proofs.Common.{inl, inr, ◌≡◌, ◌≢◌, ◌<◌, ◌≤◌, ◌+◌, ◌∙◌, ◌++◌, ◌∷◌, ◌⊎◌, ℕ, zero, suc, Bool}
use Rattle.std.proofs.Common.{true, false, not, List, [], None, Option, Some, Contains, length, nat_eq, refl}
use Rattle.std.proofs.Common.{sym, ap, subst, arith, cond, length-append}
use Rattle.std.specs.Prelude.{◌&&◌, filter, is_some, slice_get}
use Rattle.std.specs.Cmp.{nat_eq_equiv, unsigned_Decides}
use Rattle.std.specs.List.{AllPairs, list_any}
use Rattle.std.proofs.lemmas.Bool.{eqb-true, false≢true}
use Rattle.std.proofs.lemmas.List.Elements.{Contains-append_left, Contains-get_or, Contains-push}
use Rattle.std.proofs.lemmas.List.Elements.{Contains-push_cases}
use Rattle.std.proofs.lemmas.List.Filters.{length-filter_both}
use Rattle.std.proofs.lemmas.List.Kept.{AllPairs-filter}
use Rattle.std.proofs.lemmas.List.Quantifiers.{all_pairs_push}
use Rattle.std.proofs.lemmas.Map.Made.{IsDistinct-from_AllPairs, length-le_from_is_member}
use Rattle.std.proofs.lemmas.Map.Views.{Contains-from_any, any-filter_same, list_any-from_Contains}
use Rattle.std.proofs.lemmas.Option.{none-some}
use Rattle.rv_session.specs.Clients.{place_waiting}
use Rattle.rv_session.specs.declared.client.LastRequest.TheVariants.{Waits}
use Rattle.rv_account.specs.state.State.{ClientState, OpenPlace, State, Waiter, client_at, waiting_count}
use Rattle.rv_account.specs.state.resume.Resuming.{CanResume}
use Rattle.rv_account.specs.state.waiting.Waiting.{WaitsOn}
use Rattle.rv_server_connections.specs.declared.subscribers.tables.Subscription.{Subscription}
use Rattle.rv_server_connections.specs.subscribers.Subscription.{AreHeard, CountsHeard, HasSubscriber}
use Rattle.rv_server_connections.specs.subscribers.Subscription.{SubscribesTo, WhoHears}
use Rattle.rv_hub.specs.dispatcher.Telling.{AreUnheard, CountsUnheard, DoesWait}
use Rattle.rv_hub.proofs.OfDispatcher.Answering.{some_is}

-- ---- whether some connection waits for a request of a client

pub not_heard : (who : WhoHears) (client : ℕ) (is : Bool) → (HasSubscriber who client → is ≡ true)
    → not is ≡ true → (connection : ℕ) → SubscribesTo who client connection → ⊥
not_heard who client true found lacks connection hears = false≢true lacks
not_heard who client false found lacks connection hears = false≢true (found (connection, hears))

pub none_heard : (who : WhoHears) (client : ℕ) (is : Bool) → (is ≡ true → HasSubscriber who client)
    → ((connection : ℕ) → SubscribesTo who client connection → ⊥) → not is ≡ true
none_heard who client true found nobody = let heard = found refl in absurd (nobody heard.0 heard.1)
none_heard who client false found nobody = refl

-- ---- lists of numbers, each of which stands there once

abbrev pub Once : List ℕ → Type 0
Once xs = AllPairs (λ one other. one ≢ other) xs

-- numbers that stand there once, all among others, are no more than those
no_longer : (xs ys : List ℕ) → Once xs → ((q : ℕ) → Contains xs q → Contains ys q)
    → length xs ≤ length ys
no_longer xs ys once among =
    length-le_from_is_member nat_eq_equiv xs ys (IsDistinct-from_AllPairs unsigned_Decides xs once)
    (λ q there. list_any-from_Contains nat_eq_equiv q ys (among q (Contains-from_any eqb-true q xs there)))

once_pushed : (xs : List ℕ) (x : ℕ) → Once xs → (Contains xs x → ⊥) → Once (xs ++ x ∷ [])
once_pushed xs x once new =
    all_pairs_push (λ one other. one ≢ other) xs x once
    (λ k d less same. new (found k d (Contains-get_or xs k d less) same))
  where
    found : (k d : ℕ) {y : ℕ} → Contains xs y → y ≡ x → Contains xs x
    found k d {y} there same = subst (Contains xs) same there

-- ---- the clients of those that wait at open places

with_waiter : Option Waiter → List ℕ → List ℕ
with_waiter None clients = clients
with_waiter (Some w) clients = clients ++ w.key.client ∷ []

waiting_clients : List OpenPlace → List ℕ
waiting_clients [] = []
waiting_clients (there ∷ places) = with_waiter there.waiter (waiting_clients places)

-- a request of the client waits at one of the places
record WaitsAt (places : List OpenPlace) (client : ℕ) : Type 0 where
  at : ℕ
  there : OpenPlace
  found : slice_get places at ≡ Some there
  waiter : Waiter
  waits : there.waiter ≡ Some waiter
  same : waiter.key.client ≡ client

in_with : (o : Option Waiter) (clients : List ℕ) (client : ℕ) → Contains (with_waiter o clients) client
    → Contains clients client ⊎ ((w : Waiter) × (o ≡ Some w) × (w.key.client ≡ client))
unfolding with_waiter
in_with None clients client at = inl at
in_with (Some w) clients client at = by (Contains-push_cases clients w.key.client client at)
  where
    by : Contains clients client ⊎ (w.key.client ≡ client)
        → Contains clients client ⊎ ((v : Waiter) × (Some w ≡ Some v) × (v.key.client ≡ client))
    by (inl before) = inl before
    by (inr same) = inr (w, refl, same)

waits_in : (places : List OpenPlace) (client : ℕ) → Contains (waiting_clients places) client
    → WaitsAt places client
unfolding waiting_clients
waits_in [] client at = absurd (let less = at.1 in let no : ⊥ = omega (arith, less) in no)
waits_in (first ∷ places) client at =
    by (in_with first.waiter (waiting_clients places) client at) (waits_in places client)
  where
    by : Contains (waiting_clients places) client
        ⊎ ((w : Waiter) × (first.waiter ≡ Some w) × (w.key.client ≡ client))
        → (Contains (waiting_clients places) client → WaitsAt places client) → WaitsAt (first ∷ places) client
    by (inl before) rest =
        let found = rest before in
        record {
          at = suc found.at;
          there = found.there;
          found = found.found;
          waiter = found.waiter;
          waits = found.waits;
          same = found.same;
        }
    by (inr (w, is, same)) rest =
        record { at = 0; there = first; found = refl; waiter = w; waits = is; same = same }

in_before : (o : Option Waiter) (clients : List ℕ) (client : ℕ) → Contains clients client
    → Contains (with_waiter o clients) client
unfolding with_waiter
in_before None clients client at = at
in_before (Some w) clients client at = Contains-append_left clients (w.key.client ∷ []) client at

in_own : (o : Option Waiter) (w : Waiter) (clients : List ℕ) → o ≡ Some w
    → Contains (with_waiter o clients) w.key.client
unfolding with_waiter
in_own None w clients is = absurd (none-some w is)
in_own (Some v) w clients is =
    subst (λ (x : Waiter). Contains (clients ++ v.key.client ∷ []) x.key.client) (some_is v w is)
    (Contains-push clients v.key.client)

in_waiting : (places : List OpenPlace) (at : ℕ) (there : OpenPlace) (w : Waiter)
    → slice_get places at ≡ Some there
    → there.waiter ≡ Some w → Contains (waiting_clients places) w.key.client
unfolding waiting_clients
in_waiting [] at there w found waits = absurd (none-some there found)
in_waiting (first ∷ places) zero there w found waits =
    in_own first.waiter w (waiting_clients places)
    (ap (λ (o : OpenPlace). o.waiter) (some_is first there found) ∙ waits)
in_waiting (first ∷ places) (suc k) there w found waits =
    in_before first.waiter (waiting_clients places) w.key.client (in_waiting places k there w found waits)

-- at no two places requests of one client wait
WaitApart : List OpenPlace → Type 0
WaitApart places = (i j : ℕ) (one other : OpenPlace) (v w : Waiter) → i < j → slice_get places i ≡ Some one
    → slice_get places j ≡ Some other → one.waiter ≡ Some v → other.waiter ≡ Some w
    → v.key.client ≢ w.key.client

once_with : (o : Option Waiter) (clients : List ℕ) → Once clients
    → ((w : Waiter) → o ≡ Some w → Contains clients w.key.client → ⊥) → Once (with_waiter o clients)
unfolding with_waiter
once_with None clients once new = once
once_with (Some w) clients once new = once_pushed clients w.key.client once (new w refl)

once_waiting : (places : List OpenPlace) → WaitApart places → Once (waiting_clients places)
unfolding waiting_clients WaitApart
once_waiting [] apart = λ i j d less within. absurd (let no : ⊥ = omega (arith, within) in no)
once_waiting (first ∷ places) apart =
    once_with first.waiter (waiting_clients places)
    (once_waiting places (λ i j one other v w less.
    apart (suc i) (suc j) one other v w (let l = less in omega (arith, l))))
    (λ w is at.
    let found = waits_in places w.key.client at in
    apart 0 (suc found.at) first found.there w found.waiter (omega arith) refl found.found is found.waits
    (sym found.same))

longer : (o : Option Waiter) (clients : List ℕ) (first : OpenPlace) (rest : List OpenPlace)
    → length clients ≡ length rest
    → length (with_waiter o clients) ≡ length (cond (is_some o) (first ∷ rest) rest)
unfolding with_waiter
longer None clients first rest same = same
longer (Some w) clients first rest same =
    let long = length-append clients (w.key.client ∷ []) in omega (arith, long, same)

length_waiting : (places : List OpenPlace)
    → length (waiting_clients places) ≡ length (filter (λ o. is_some o.waiter) places)
unfolding waiting_clients
length_waiting [] = refl
length_waiting (first ∷ places) =
    longer first.waiter (waiting_clients places) first (filter (λ o. is_some o.waiter) places)
    (length_waiting places)

-- ---- members

any_in : (xs : List ℕ) (q : ℕ) → list_any (nat_eq q) xs ≡ true → Contains xs q
any_in xs q any = Contains-from_any eqb-true q xs any

in_any : (xs : List ℕ) (q : ℕ) → Contains xs q → list_any (nat_eq q) xs ≡ true
in_any xs q there = list_any-from_Contains nat_eq_equiv q xs there

and_both : (a b : Bool) → (a && b) ≡ true → (a ≡ true) × (b ≡ true)
and_both true b is = (refl, is)
and_both false b is = absurd (false≢true is)

both_and : (a b : Bool) → a ≡ true → b ≡ true → (a && b) ≡ true
both_and true b first second = second
both_and false b first second = absurd (false≢true first)

any_filter : (p : ℕ → Bool) (q : ℕ) (xs : List ℕ)
    → list_any (nat_eq q) (filter p xs) ≡ (p q && list_any (nat_eq q) xs)
any_filter p q xs = any-filter_same (nat_eq q) p (p q) (λ y same. ap p (sym (eqb-true q y same))) xs

in_filter : (p : ℕ → Bool) (xs : List ℕ) (q : ℕ) → Contains (filter p xs) q → (p q ≡ true) × Contains xs q
in_filter p xs q at =
    let both = and_both (p q) (list_any (nat_eq q) xs) (sym (any_filter p q xs) ∙ in_any (filter p xs) q at)
    in
    (both.0, any_in xs q both.1)

filter_in : (p : ℕ → Bool) (xs : List ℕ) (q : ℕ) → p q ≡ true → Contains xs q → Contains (filter p xs) q
filter_in p xs q is at =
    any_in (filter p xs) q
    (any_filter p q xs ∙ both_and (p q) (list_any (nat_eq q) xs) is (in_any xs q at))

-- those among others, and the rest
among : List ℕ → ℕ → Bool
among others x = list_any (nat_eq x) others

apart_from : List ℕ → ℕ → Bool
apart_from others x = not (among others x)

not_true : (b : Bool) → not b ≡ true → b ≡ false
not_true true is = absurd (false≢true is)
not_true false is = refl

true_not : (b : Bool) → (b ≡ true → ⊥) → not b ≡ true
true_not true never = absurd (never refl)
true_not false never = refl

-- the rest is as many as there are more
rest_length : (xs ys : List ℕ) → Once xs → Once ys → ((q : ℕ) → Contains ys q → Contains xs q)
    → length (filter (apart_from ys) xs) + length ys ≡ length xs
unfolding among apart_from
rest_length xs ys once_xs once_ys within =
    let found = filter (among ys) xs in
    let up = no_longer found ys (AllPairs-filter (λ one other. one ≢ other) (among ys) xs once_xs)
    (λ q at. any_in ys q (in_filter (among ys) xs q at).0) in
    let down = no_longer ys found once_ys (λ q at. filter_in (among ys) xs q (in_any ys q at) (within q at))
    in
    let both = length-filter_both (among ys) (apart_from ys) (λ x. refl) xs in
    omega (arith, up, down, both)

-- ---- of a state

module _ (s : State) (is : CanResume s) where
  wait_apart : WaitApart s.open_places
  unfolding WaitApart
  wait_apart i j one other v w less at_one at_other waits_one waits_other same =
      let a = is.awaited one v (i, at_one) waits_one in
      let b = is.awaited other w (j, at_other) waits_other in
      let session : a.session ≡ b.session =
      some_is a.session b.session (sym a.known ∙ ap (client_at s) same ∙ b.known) in
      let requests : Waits one.place a.call ≡ Waits other.place b.call =
      sym a.waits ∙ ap (λ (c : ClientState). c.request) session ∙ b.waits in
      let places : one.place ≡ other.place = some_is one.place other.place (ap place_waiting requests) in
      let rises = is.rise i j one other less at_one at_other in
      let no : ⊥ = omega (arith, places, rises) in
      no

  does_wait : (client : ℕ) → Contains (waiting_clients s.open_places) client
      → (session : ClientState) × (client_at s client ≡ Some session) × DoesWait session.request
  does_wait client at =
      let found = waits_in s.open_places client at in
      let last = is.awaited found.there found.waiter (found.at, found.found) found.waits in (
        last.session,
        ap (client_at s) (sym found.same) ∙ last.known,
        (found.there.place, last.call, last.waits),
      )

  waits_there : (client : ℕ) (session : ClientState) → client_at s client ≡ Some session
      → DoesWait session.request
      → Contains (waiting_clients s.open_places) client
  waits_there client session known (place, call, waits) =
      let stands = is.standing client session place call known waits in
      subst (Contains (waiting_clients s.open_places)) stands.client_is
      (in_waiting s.open_places stands.is_open.0 stands.there stands.waiter stands.is_open.1 stands.waits)

  module _ (who : WhoHears) (heard : List ℕ) (are : AreHeard who heard)
      (waits : (connection : ℕ) (subscription : Subscription) → who connection ≡ Some subscription
      → WaitsOn s subscription.key)
    where
      heard_wait : (client : ℕ) → Contains heard client → Contains (waiting_clients s.open_places) client
      heard_wait client at =
          let hears = (are.each client).0 at in
          let on = waits hears.0 hears.1.subscription hears.1.there in
          subst (Contains (waiting_clients s.open_places)) hears.1.same
          (waits_there hears.1.subscription.key.client on.session on.there (on.place, on.call, on.waits))

      are_unheard : AreUnheard s who (filter (apart_from heard) (waiting_clients s.open_places))
      unfolding among apart_from
      are_unheard = record {
        once = AllPairs-filter (λ one other. one ≢ other) (apart_from heard) (waiting_clients s.open_places)
            (once_waiting s.open_places wait_apart);
        each = λ client. (
          λ at.
              let parts = in_filter (apart_from heard) (waiting_clients s.open_places) client at in
              let found = does_wait client parts.1 in
              record {
                session = found.0;
                there = found.1;
                waits = found.2;
                nobody = λ connection hears.
                    false≢true (sym (not_true (among heard client) parts.0)
                    ∙ in_any heard client ((are.each client).1 (connection, hears)));
              },
          λ un.
              filter_in (apart_from heard) (waiting_clients s.open_places) client
              (true_not (among heard client) (λ any.
              let hears = (are.each client).0 (any_in heard client any) in
              un.nobody hears.0 hears.1))
              (waits_there client un.session un.there un.waits),
        );
      }

      unheard_length : length (filter (apart_from heard) (waiting_clients s.open_places)) + length heard
          ≡ waiting_count s
      unheard_length =
          rest_length (waiting_clients s.open_places) heard (once_waiting s.open_places wait_apart) are.once
          heard_wait
          ∙ length_waiting s.open_places

  -- so many are heard, and so many wait
  module _ (who : WhoHears) (heard : ℕ) (counts : CountsHeard who heard)
      (waits : (connection : ℕ) (subscription : Subscription) → who connection ≡ Some subscription
      → WaitsOn s subscription.key)
    where
      pub heard_at_most : heard ≤ waiting_count s
      heard_at_most =
          let long = unheard_length who counts.0 counts.1 waits in
          let same = counts.2 in omega (arith, long, same)

      pub counts_unheard : (result : ℕ) → result + heard ≡ waiting_count s → CountsUnheard s who result
      counts_unheard result less =
          let long = unheard_length who counts.0 counts.1 waits in
          let same = counts.2 in (
            filter (apart_from counts.0) (waiting_clients s.open_places),
            are_unheard who counts.0 counts.1 waits,
            omega (arith, long, same, less),
          )
