-- The list of those that wait for a request of a client, the first of them before the others; and of several
-- keys, those of the first before the others.
use Rattle.std.proofs.Common.{inl, inr, ◌≡◌, ◌≢◌, ◌<◌, ◌∙◌, ◌++◌, ℕ, zero, suc, List, [], ◌∷◌, None, Some}
use Rattle.std.proofs.Common.{refl, sym, ap, subst, arith, length}
use Rattle.std.specs.Prelude.{All, AllPairs, Contains, slice_get, slice_index_or}
use Rattle.std.proofs.lemmas.Bool.{cases_eq, cases_lt}
use Rattle.std.proofs.lemmas.Option.{none-some}
use Rattle.std.proofs.lemmas.List.Elements.{All-append, All-cons, All-nil, Contains-append_left}
use Rattle.std.proofs.lemmas.List.Elements.{Contains-append_right}
use Rattle.std.proofs.lemmas.List.Kept.{AllPairs-cons}
use Rattle.rv_text.specs.declared.message.Key.{Key}
use Rattle.rv_server_connections.specs.declared.subscribers.tables.Subscription.{Subscription}
use Rattle.rv_server_connections.specs.subscribers.Subscription.{SubscribesTo, IsFirstSubscriber}
use Rattle.rv_server_connections.specs.subscribers.Subscription.{SetsSubscription, WhoHears}
use Rattle.rv_hub.specs.dispatcher.Telling.{AreSubscribersOf, HearsAt, HearsSooner}
use Rattle.rv_hub.specs.dispatcher.Going.{AreSubscribersOfClient}

pub there_first : {X : Type 0} → (x : X) (xs : List X) (y : X) → x ≡ y → Contains (x ∷ xs) y
there_first x xs y same = (0, omega arith, same)

pub there_later : {X : Type 0} → (x : X) (xs : List X) (y : X) → Contains xs y → Contains (x ∷ xs) y
there_later x xs y there =
    let within = there.1 in
    (suc there.0, omega arith, there.2)

-- who doesn't wait isn't one that does
pub is_other : (who : WhoHears) (one other : ℕ) (subscription : Subscription) → who one ≡ None
    → who other ≡ Some subscription
    → other ≢ one
is_other who one other subscription none some same = none-some subscription (sym none ∙ ap who (sym same)
    ∙ some)

pub row_nobody : (who : WhoHears) (client : ℕ) → ((connection : ℕ) → ¬ SubscribesTo who client connection)
    → AreSubscribersOfClient who client []
row_nobody who client none = record {
  rise = λ i j d less within. omega arith;
  hear = All-nil (SubscribesTo who client);
  all = λ connection hears. absurd (none connection hears);
}

-- whoever waits afterwards waited before
heard_before : (who after : WhoHears) (client connection other : ℕ)
    → SetsSubscription who connection None after
    → SubscribesTo after client other → SubscribesTo who client other × (other ≢ connection)
heard_before who after client connection other sets hears =
    let apart = is_other after connection other hears.subscription sets.own hears.there in (
      record {
        subscription = hears.subscription;
        there = sym (sets.others other apart) ∙ hears.there;
        same = hears.same;
      },
      apart,
    )

-- and the other way round, but for the one
heard_after : (who after : WhoHears) (client connection other : ℕ)
    → SetsSubscription who connection None after
    → other ≢ connection → SubscribesTo who client other → SubscribesTo after client other
heard_after who after client connection other sets apart hears = record {
  subscription = hears.subscription;
  there = sets.others other apart ∙ hears.there;
  same = hears.same;
}

all_later : (who after : WhoHears) (client connection : ℕ) (row : List ℕ)
    → IsFirstSubscriber who client connection → SetsSubscription who connection None after
    → All (SubscribesTo after client) row → All (λ other. connection < other) row
all_later who after client connection row first sets hear k d within =
    let other = slice_index_or row k d in
    let before = heard_before who after client connection other sets (hear k d within) in
    let least = first.first other before.0 in
    let apart = before.1 in
    omega arith

all_heard : (who after : WhoHears) (client connection : ℕ) (row : List ℕ)
    → SetsSubscription who connection None after → All (SubscribesTo after client) row
    → All (SubscribesTo who client) row
all_heard who after client connection row sets hear k d within =
    (heard_before who after client connection (slice_index_or row k d) sets (hear k d within)).0

found : (who after : WhoHears) (client connection : ℕ) (row : List ℕ) (other : ℕ)
    → IsFirstSubscriber who client connection → SetsSubscription who connection None after
    → ((n : ℕ) → SubscribesTo after client n → Contains row n) → SubscribesTo who client other
    → Contains (connection ∷ row) other
found who after client connection row other first sets all hears =
    let least = first.first other hears in
    elim (cases_lt connection other) [
      | inl less ↦
          let apart : other ≢ connection = λ same. (let is = same in omega arith) in
          there_later connection row other
          (all other (heard_after who after client connection other sets apart hears))
      | inr no_less ↦ let same : connection ≡ other = omega arith in there_first connection row other same
    ]

pub row_first : (who after : WhoHears) (client connection : ℕ) (row : List ℕ)
    → IsFirstSubscriber who client connection → SetsSubscription who connection None after
    → AreSubscribersOfClient after client row → AreSubscribersOfClient who client (connection ∷ row)
row_first who after client connection row first sets rest = record {
  rise = AllPairs-cons (λ (one other : ℕ). one < other) connection row
      (all_later who after client connection row first sets rest.hear) rest.rise;
  hear = All-cons (SubscribesTo who client) connection row first.hears
      (all_heard who after client connection row sets rest.hear);
  all = λ other. found who after client connection row other first sets rest.all;
}

-- ---- after those of one key, those of the others

pairs_append : {X : Type 0} (R : X → X → Type 0) (xs ys : List X) → AllPairs R xs → AllPairs R ys
    → ((i j : ℕ) (d : X) → i < length xs → j < length ys → R (slice_index_or xs i d) (slice_index_or ys j d))
    → AllPairs R (xs ++ ys)
pairs_append R [] ys first rest across = rest
pairs_append R (x ∷ xs) ys first rest across =
    AllPairs-cons R x (xs ++ ys)
    (All-append (R x) xs ys (λ k d within. first 0 (suc k) d (omega arith) (let w = within in omega arith))
    (λ k d within. across 0 k d (omega arith) within))
    (pairs_append R xs ys
    (λ i j d less within. first (suc i) (suc j) d (let l = less in omega arith) (let w = within in
    omega arith))
    rest (λ i j d one other. across (suc i) j d (let o = one in omega arith) other))

at_first : (who : WhoHears) (key : Key) (keys : List Key) (n : ℕ) → SubscribesTo who key.client n
    → HearsAt who (key ∷ keys) n 0
at_first who key keys n hears = record {
  key = key;
  at = refl;
  hears = hears;
  first = λ sooner other less at. absurd (let l = less in omega arith);
}

-- what holds of those that wait after the tellings of the first key
record Behind (who after : WhoHears) (client : ℕ) (first : List ℕ) : Type 0 where
  fewer : (n : ℕ) (subscription : Subscription) → after n ≡ Some subscription → who n ≡ Some subscription
  nobody : (n : ℕ) → ¬ SubscribesTo after client n
  still : (n : ℕ) → (Contains first n → ⊥) → after n ≡ who n

none_sooner : (after : WhoHears) (key : Key) (keys : List Key) (n i : ℕ)
    → ((n : ℕ) → ¬ SubscribesTo after key.client n) → (it : HearsAt after keys n i)
    → (sooner : ℕ) (other : Key)
    → sooner < suc i → slice_get (key ∷ keys) sooner ≡ Some other → other.client ≢ it.key.client
none_sooner after key keys n i nobody it zero other less at same =
    let is : key ≡ other = (cc) in
    nobody n (record {
      subscription = it.hears.subscription;
      there = it.hears.there;
      same = it.hears.same ∙ sym same ∙ sym (ap (λ (k : Key). k.client) is);
    })
none_sooner after key keys n i nobody it (suc sooner) other less at same =
    it.first sooner other (let l = less in omega arith) at same

at_later : (who after : WhoHears) (key : Key) (keys : List Key) (first : List ℕ) (n i : ℕ)
    → Behind who after key.client first → HearsAt after keys n i → HearsAt who (key ∷ keys) n (suc i)
at_later who after key keys first n i behind it = record {
  key = it.key;
  at = it.at;
  hears = record {
    subscription = it.hears.subscription;
    there = behind.fewer n it.hears.subscription it.hears.there;
    same = it.hears.same;
  };
  first = none_sooner after key keys n i behind.nobody it;
}

sooner_later : (who after : WhoHears) (key : Key) (keys : List Key) (first : List ℕ) (one other : ℕ)
    → Behind who after key.client first → HearsSooner after keys one other
    → HearsSooner who (key ∷ keys) one other
sooner_later who after key keys first one other behind (i, j, is, its, inl less) = (
  suc i,
  suc j,
  at_later who after key keys first one i behind is,
  at_later who after key keys first other j behind its,
  inl (let l = less in omega arith),
)
sooner_later who after key keys first one other behind (i, j, is, its, inr (same, less)) = (
  suc i,
  suc j,
  at_later who after key keys first one i behind is,
  at_later who after key keys first other j behind its,
  inr (ap suc same, less),
)

-- who waits for a request of another client isn't among the first
not_first : (who : WhoHears) (client : ℕ) (first : List ℕ) (n : ℕ) (subscription : Subscription)
    → AreSubscribersOfClient who client first → who n ≡ Some subscription → subscription.key.client ≢ client
    → Contains first n → ⊥
not_first who client first n subscription all there apart (k, within, is) =
    let hears = all.hear k n within in
    let same : Some hears.subscription ≡ Some subscription = sym hears.there ∙ ap who is ∙ there in
    let one : hears.subscription ≡ subscription = (cc) in
    apart (ap (λ (h : Subscription). h.key.client) (sym one) ∙ hears.same)

-- whoever waits for a request of one of the keys is in one of the two lists
in_either : (who after : WhoHears) (key : Key) (keys : List Key) (first rest : List ℕ)
    → AreSubscribersOfClient who key.client first → Behind who after key.client first
    → AreSubscribersOf after keys rest → (n place : ℕ) (its : Key) → slice_get (key ∷ keys) place ≡ Some its
    → SubscribesTo who its.client n → Contains (first ++ rest) n
in_either who after key keys first rest all behind others n zero its at hears =
    let is : key ≡ its = (cc) in
    Contains-append_left first rest n
    (all.all n (subst (λ (k : Key). SubscribesTo who k.client n) (sym is) hears))
in_either who after key keys first rest all behind others n (suc place) its at hears =
    elim (cases_eq its.client key.client) [
      | inl same ↦
          Contains-append_left first rest n
          (all.all n (record {
            subscription = hears.subscription;
            there = hears.there;
            same = hears.same
                ∙ same;
          }))
      | inr apart ↦
          Contains-append_right first rest n
          (others.all n place its at (record {
            subscription = hears.subscription;
            there = behind.still n (not_first who key.client first n hears.subscription all hears.there
                (λ same. apart (sym hears.same ∙ same))) ∙ hears.there;
            same = hears.same;
          }))
    ]

pub row_keys : (who after : WhoHears) (key : Key) (keys : List Key) (first rest : List ℕ)
    → AreSubscribersOfClient who key.client first
    → ((n : ℕ) (subscription : Subscription) → after n ≡ Some subscription → who n ≡ Some subscription)
    → ((n : ℕ) → ¬ SubscribesTo after key.client n)
    → ((n : ℕ) → (Contains first n → ⊥) → after n ≡ who n)
    → AreSubscribersOf after keys rest → AreSubscribersOf who (key ∷ keys) (first ++ rest)
row_keys who after key keys first rest all fewer nobody still others =
    let behind : Behind who after key.client first =
    record { fewer = fewer; nobody = nobody; still = still } in
    record {
      order = pairs_append (HearsSooner who (key ∷ keys)) first rest
          (λ i j d less within. (
            0,
            0,
            at_first who key keys _ (all.hear i d (let l = less in let w = within in omega arith)),
            at_first who key keys _ (all.hear j d within),
            inr (refl, all.rise i j d less within),
          ))
          (λ i j d less within. sooner_later who after key keys first _ _ behind
          (others.order i j d less within))
          (λ i j d one other.
          let its = others.hear j d other in (
            0,
            suc its.0,
            at_first who key keys _ (all.hear i d one),
            at_later who after key keys first _ its.0 behind its.1,
            inl (omega arith),
          ));
      hear = All-append (λ n. (place : ℕ) × HearsAt who (key ∷ keys) n place) first rest
          (λ k d within. (0, at_first who key keys _ (all.hear k d within)))
          (λ k d within.
          let its = others.hear k d within in
          (suc its.0, at_later who after key keys first _ its.0 behind its.1));
      all = in_either who after key keys first rest all behind others;
    }

pub row_no_key : (who : WhoHears) → AreSubscribersOf who [] []
row_no_key who = record {
  order = λ i j d less within. absurd (let w = within in omega arith);
  hear = All-nil (λ n. (place : ℕ) × HearsAt who [] n place);
  all = λ connection place key at hears. absurd (none-some key at);
}
