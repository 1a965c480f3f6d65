-- The tables together: one more, one less, and who is found in them.
use Rattle.std.proofs.Common.{◌≡◌, ◌∙◌, ℕ, true, nat_eq, None}
use Rattle.std.proofs.Common.{IfNone, IfSome, Option, Some, refl, sym, ap}
use Rattle.std.proofs.lemmas.Bool.{eq-eqb, eqb-true, false≢true}
use Rattle.rv_server_connections.specs.declared.subscribers.tables.Subscription.{Subscription}
use Rattle.rv_server_connections.specs.declared.subscribers.tables.Tables.{Tables}
use Rattle.rv_server_connections.specs.subscribers.Subscription.{SubscribesTo, IsFirstSubscriber, IsNextUntil}
use Rattle.rv_server_connections.specs.subscribers.Subscription.{WhoHears}
use Rattle.rv_server_connections.specs.subscribers.Indexed.{IsIndexed}
use Rattle.rv_server_connections.specs.subscribers.Pairs.{IsLeastPair, IsLowestUnder, NoPairs, NoneUnder}
use Rattle.rv_server_connections.specs.subscribers.Indexed.{is_of, is_until, who_hears}

of_some : (client : ℕ) (was : Option Subscription) (subscription : Subscription) → was ≡ Some subscription
    → is_of was client ≡ nat_eq subscription.key.client client
of_some client was subscription some = ap (λ o. is_of o client) some

until_some : (moment : ℕ) (was : Option Subscription) (subscription : Subscription) → was ≡ Some subscription
    → is_until was moment ≡ nat_eq subscription.until moment
until_some moment was subscription some = ap (λ o. is_until o moment) some

-- ---- who is found

pub hears_by : (who : WhoHears) (client connection : ℕ) (o : Option Subscription) → who connection ≡ o
    → is_of o client ≡ true → SubscribesTo who client connection
hears_by who client connection None there of = absurd (cc)
hears_by who client connection (Some subscription) there of = record {
  subscription = subscription;
  there = there;
  same = eqb-true subscription.key.client client of;
}

pub is_of_by : (who : WhoHears) (client connection : ℕ) → SubscribesTo who client connection
    → is_of (who connection) client ≡ true
is_of_by who client connection hears = of_some client (who connection) hears.subscription hears.there
    ∙ eq-eqb hears.subscription.key.client client hears.same

pub first_subscriber : (t : Tables) (client connection : ℕ) → IsIndexed t
    → IsLowestUnder t.clients client connection
    → IsFirstSubscriber (who_hears t) client connection
first_subscriber t client connection indexed lowest = record {
  hears = hears_by (who_hears t) client connection (who_hears t connection) refl (sym (indexed.clients client
      connection) ∙ lowest.there);
  first = λ other hears. lowest.lowest other (indexed.clients client other ∙ is_of_by (who_hears t) client
      other
      hears);
}

pub no_subscriber : (t : Tables) (client : ℕ) → IsIndexed t → NoneUnder t.clients client → (connection : ℕ)
    → ¬ SubscribesTo (who_hears t) client connection
no_subscriber t client indexed none connection hears = false≢true (sym (none connection)
    ∙ indexed.clients client connection ∙ is_of_by (who_hears t) client connection hears)

until_by : (who : WhoHears) (moment connection : ℕ) (o : Option Subscription) → who connection ≡ o
    → is_until o moment ≡ true
    → (subscription : Subscription) × (who connection ≡ Some subscription) × (subscription.until ≡ moment)
until_by who moment connection None there is = absurd (cc)
until_by who moment connection (Some subscription) there is =
    (subscription, there, eqb-true subscription.until moment is)

pub next_until : (t : Tables) (next : ℕ × ℕ) → IsIndexed t → IsLeastPair t.moments next
    → IsNextUntil (who_hears t) next.0 next.1
next_until t next indexed least =
    let its = until_by (who_hears t) next.0 next.1 (who_hears t next.1) refl
    (sym (indexed.moments next.0 next.1) ∙ least.there) in
    record {
      subscription = its.0;
      there = its.1;
      same = its.2;
      first = λ other subscription there. least.lowest subscription.until other
          (indexed.moments subscription.until other
          ∙ until_some subscription.until (who_hears t other) subscription there ∙ eq-eqb subscription.until
          subscription.until
          refl);
    }

none_by : (t : Tables) (o : Option Subscription) (connection : ℕ) → IsIndexed t → NoPairs t.moments
    → who_hears t connection ≡ o → o ≡ None
none_by t None connection indexed none is = refl
none_by t (Some subscription) connection indexed none is =
    absurd (false≢true (sym (none subscription.until connection)
    ∙ indexed.moments subscription.until connection ∙ until_some subscription.until (who_hears t connection)
    subscription is
    ∙ eq-eqb subscription.until subscription.until refl))

pub nobody_hears : (t : Tables) → IsIndexed t → NoPairs t.moments → (connection : ℕ)
    → who_hears t connection ≡ None
nobody_hears t indexed none connection = none_by t (who_hears t connection) connection indexed none refl

-- ---- of what was found, if something was

pub some_of : {A : Type 0} (found : Option A) (P Q : A → Type 0) → ((x : A) → P x → Q x) → IfSome found P
    → IfSome found Q
some_of None P Q by was = tt
some_of (Some x) P Q by was = by x was

pub none_of : {A P Q : Type 0} (found : Option A) → (P → Q) → IfNone found P → IfNone found Q
none_of None by was = by was
none_of (Some x) by was = tt
