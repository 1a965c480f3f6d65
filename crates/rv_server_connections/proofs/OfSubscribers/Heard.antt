-- Of which clients connections wait for a request, where one waits more or less.
use Rattle.std.proofs.Common.{◌≡◌, ◌≢◌, ◌∙◌, ◌⊎◌, inl, inr, ℕ, Bool, true, false, List, Option, Some, None}
use Rattle.std.proofs.Common.{◌<◌, Contains, IfNone, IfSome, arith, cond, get_or, is_some, length, nat_eq}
use Rattle.std.proofs.Common.{refl, sym, ap, subst}
use Rattle.std.specs.Prelude.{◌↔◌}
use Rattle.std.specs.Cmp.{nat_eq_equiv}
use Rattle.std.specs.HashSet.{HashSet, IsUnique, contains, hash_set_len}
use Rattle.std.specs.List.{AllPairs, IsDistinct, list_any}
use Rattle.std.specs.Map.{keys_of}
use Rattle.std.proofs.lemmas.Bool.{cases_eq, eq-eqb, eqb-true, false≢true, true≢false}
use Rattle.std.proofs.lemmas.List.{get_or-map}
use Rattle.std.proofs.lemmas.List.Elements.{Contains-get_or}
use Rattle.std.proofs.lemmas.Map.Entries.{length-keys_of}
use Rattle.std.proofs.lemmas.Map.Keys.{apart_from_distinct}
use Rattle.std.proofs.lemmas.Map.Views.{Contains-from_any, hash_set_contains_iff, list_any-from_Contains}
use Rattle.std.proofs.lemmas.Option.{none-some, same_Some}
use Rattle.rv_server_connections.specs.declared.subscribers.tables.Subscription.{Subscription}
use Rattle.rv_server_connections.specs.declared.subscribers.tables.Tables.{Tables}
use Rattle.rv_server_connections.specs.subscribers.Subscription.{CountsHeard, HasSubscriber, SubscribesTo}
use Rattle.rv_server_connections.specs.subscribers.Subscription.{IsFirstSubscriber, SetsSubscription}
use Rattle.rv_server_connections.specs.subscribers.Subscription.{WhoHears, nobody}
use Rattle.rv_server_connections.specs.subscribers.Indexed.{IsIndexed, who_hears}
use Rattle.rv_server_connections.specs.subscribers.Pairs.{some_under}
use Rattle.rv_server_connections.proofs.OfSubscribers.Finding.{hears_by, is_of_by}
use Rattle.rv_server_connections.proofs.OfSubscribers.Listed.{stands_from, stands_to}
use Rattle.rv_server_connections.proofs.OfSubscribers.Ordered.{Pair}

-- ---- a connection waits, or does so no longer

module _ (old new : WhoHears) (connection : ℕ) (subscription : Subscription) where
  module _ (free : old connection ≡ None) (sets : SetsSubscription old connection (Some subscription) new)
    where
      new_heard : HasSubscriber new subscription.key.client
      new_heard = (connection, record { subscription = subscription; there = sets.own; same = refl })

      still_heard : (c : ℕ) → HasSubscriber old c → HasSubscriber new c
      still_heard c is =
          let apart = λ (same : is.0 ≡ connection).
          none-some is.1.subscription (sym free ∙ ap old (sym same) ∙ is.1.there) in (
            is.0,
            record {
              subscription = is.1.subscription;
              there = sets.others is.0 apart ∙ is.1.there;
              same = is.1.same;
            },
          )

      was_heard : (c : ℕ) → HasSubscriber new c → HasSubscriber old c ⊎ (subscription.key.client ≡ c)
      was_heard c is = elim (cases_eq is.0 connection) [
        | inl same ↦
            let one : subscription ≡ is.1.subscription = same_Some _ _ (sym sets.own ∙ ap new (sym same)
            ∙ is.1.there) in
            inr (ap (λ (h : Subscription). h.key.client) one ∙ is.1.same)
        | inr apart ↦ inl (
          is.0,
          record {
            subscription = is.1.subscription;
            there = sym (sets.others is.0 apart) ∙ is.1.there;
            same = is.1.same;
          },
        )
      ]

      -- the set with its client has all that are heard
      pub adds_heard : (was now : ℕ → Bool)
          → ((q : ℕ) → now q ≡ cond (nat_eq subscription.key.client q) true (was q))
          → ((q : ℕ) → (was q ≡ true) ↔ HasSubscriber old q) → (q : ℕ) → (now q ≡ true) ↔ HasSubscriber new q
      adds_heard was now sets counted q = by (nat_eq subscription.key.client q) refl
        where
          by : (b : Bool) → nat_eq subscription.key.client q ≡ b → (now q ≡ true) ↔ HasSubscriber new q
          by true own = (
            λ _. subst (HasSubscriber new) (eqb-true subscription.key.client q own) new_heard,
            λ _. sets q ∙ ap (λ b. cond b true (was q)) own,
          )
          by false other = (
            λ is. still_heard q ((counted q).0 (sym (sets q ∙ ap (λ b. cond b true (was q)) other) ∙ is)),
            λ heard.
                sets q ∙ ap (λ b. cond b true (was q)) other ∙ (counted q).1 (elim (was_heard q heard) [
                  | inl was ↦ was
                  | inr same ↦ absurd (false≢true (sym other ∙ eq-eqb subscription.key.client q same))
                ]),
          )

  module _ (was : old connection ≡ Some subscription) (sets : SetsSubscription old connection None new) where
    pub own_heard : HasSubscriber old subscription.key.client
    own_heard = (connection, record { subscription = subscription; there = was; same = refl })

    from_old : (c : ℕ) → HasSubscriber new c → HasSubscriber old c
    from_old c is =
        let apart = λ (same : is.0 ≡ connection).
        none-some is.1.subscription (sym sets.own ∙ ap new (sym same) ∙ is.1.there) in (
          is.0,
          record {
            subscription = is.1.subscription;
            there = sym (sets.others is.0 apart) ∙ is.1.there;
            same = is.1.same;
          },
        )

    others_heard : (c : ℕ) → subscription.key.client ≢ c → HasSubscriber old c → HasSubscriber new c
    others_heard c other is =
        let apart = λ (same : is.0 ≡ connection).
        other (ap (λ (h : Subscription). h.key.client)
        (same_Some _ _ (sym was ∙ ap old (sym same) ∙ is.1.there)) ∙ is.1.same) in (
          is.0,
          record {
            subscription = is.1.subscription;
            there = sets.others is.0 apart ∙ is.1.there;
            same = is.1.same;
          },
        )

    -- the set stays, where another connection waits for a request of the client
    pub leaves_same : (has : ℕ → Bool) → HasSubscriber new subscription.key.client
        → ((q : ℕ) → (has q ≡ true) ↔ HasSubscriber old q) → (q : ℕ) → (has q ≡ true) ↔ HasSubscriber new q
    leaves_same has heard counted q = (λ is. to ((counted q).0 is), λ is. (counted q).1 (from_old q is))
      where
        to : HasSubscriber old q → HasSubscriber new q
        to is = elim (cases_eq subscription.key.client q) [
          | inl same ↦ subst (HasSubscriber new) same heard
          | inr apart ↦ others_heard q apart is
        ]

    -- and without its client, where none does
    pub leaves_one : (has now : ℕ → Bool) → (HasSubscriber new subscription.key.client → ⊥)
        → ((q : ℕ) → now q ≡ cond (nat_eq subscription.key.client q) false (has q))
        → ((q : ℕ) → (has q ≡ true) ↔ HasSubscriber old q) → (q : ℕ) → (now q ≡ true) ↔ HasSubscriber new q
    leaves_one has now gone sets counted q = by (nat_eq subscription.key.client q) refl
      where
        by : (b : Bool) → nat_eq subscription.key.client q ≡ b → (now q ≡ true) ↔ HasSubscriber new q
        by true own = (
          λ is. absurd (false≢true (sym (sets q ∙ ap (λ b. cond b false (has q)) own) ∙ is)),
          λ heard. absurd (gone (subst (HasSubscriber new) (sym (eqb-true subscription.key.client q own))
              heard)),
        )
        by false other = (
          λ is.
              others_heard q (λ same. false≢true (sym other ∙ eq-eqb subscription.key.client q same))
              ((counted q).0 (sym (sets q ∙ ap (λ b. cond b false (has q)) other) ∙ is)),
          λ heard.
              sets q ∙ ap (λ b. cond b false (has q)) other ∙ (counted q).1 (from_old q heard),
        )

-- who waited for nothing waits no longer
pub leaves_none : (old new : WhoHears) (connection : ℕ) (has : ℕ → Bool) → old connection ≡ None
    → SetsSubscription old connection None new → ((q : ℕ) → (has q ≡ true) ↔ HasSubscriber old q)
    → (q : ℕ) → (has q ≡ true) ↔ HasSubscriber new q
leaves_none old new connection has none sets counted q =
    (λ is. to q ((counted q).0 is), λ is. (counted q).1 (from q is))
  where
    to : (c : ℕ) → HasSubscriber old c → HasSubscriber new c
    to c is =
        let apart = λ (same : is.0 ≡ connection).
        none-some is.1.subscription (sym none ∙ ap old (sym same) ∙ is.1.there) in (
          is.0,
          record {
            subscription = is.1.subscription;
            there = sets.others is.0 apart ∙ is.1.there;
            same = is.1.same;
          },
        )

    from : (c : ℕ) → HasSubscriber new c → HasSubscriber old c
    from c is =
        let apart = λ (same : is.0 ≡ connection).
        none-some is.1.subscription (sym sets.own ∙ ap new (sym same) ∙ is.1.there) in (
          is.0,
          record {
            subscription = is.1.subscription;
            there = sym (sets.others is.0 apart) ∙ is.1.there;
            same = is.1.same;
          },
        )

-- ---- the clients under whom connections stand

number_in : (es : List Pair) (n : ℕ) → list_any (nat_eq n) (keys_of es) ≡ true → (c : ℕ) × Contains es (n, c)
number_in es n any =
    let there = Contains-from_any eqb-true n (keys_of es) any in
    let less : there.0 < length es = omega (arith, there.1, length-keys_of es) in
    let at : (get_or es there.0 (0, 0)).0 ≡ n =
    sym (get_or-map (λ (e : Pair). e.0) es there.0 (0, 0) n less) ∙ there.2 in
    let e = get_or es there.0 (0, 0) in
    (e.1, subst (λ m. Contains es (m, e.1)) at (Contains-get_or es there.0 (0, 0) less))

in_numbers : (es : List Pair) (n c : ℕ) → Contains es (n, c) → list_any (nat_eq n) (keys_of es) ≡ true
in_numbers es n c there =
    list_any-from_Contains nat_eq_equiv n (keys_of es) (
      there.0,
      omega (arith, there.1, length-keys_of es),
      get_or-map (λ (e : Pair). e.0) es there.0 (n, c) n there.1 ∙ ap (λ (e : Pair). e.0) there.2,
    )

same_bool : (a b : Bool) → (a ≡ true → b ≡ true) → (b ≡ true → a ≡ true) → a ≡ b
same_bool true b to from = sym (to refl)
same_bool false true to from = from refl
same_bool false false to from = refl

module _ (t : Tables) (indexed : IsIndexed t) where
  under_heard : (q : ℕ) → some_under t.clients q ≡ true → HasSubscriber (who_hears t) q
  under_heard q some =
      let found = number_in t.clients.pairs.keys q some in (
        found.0,
        hears_by (who_hears t) q found.0 (who_hears t found.0) refl
            (sym (indexed.clients q found.0) ∙ stands_from t.clients q found.0 found.1),
      )

  heard_under : (q : ℕ) → HasSubscriber (who_hears t) q → some_under t.clients q ≡ true
  heard_under q heard =
      in_numbers t.clients.pairs.keys q heard.0 (stands_to t.clients q heard.0
      (indexed.clients q heard.0 ∙ is_of_by (who_hears t) q heard.0 heard.1))

  -- a set that has those clients has those that are heard, and the other way round
  pub has_heard : (has : ℕ → Bool) → ((q : ℕ) → has q ≡ some_under t.clients q)
      → (q : ℕ) → (has q ≡ true) ↔ HasSubscriber (who_hears t) q
  has_heard has same q =
      (λ is. under_heard q (sym (same q) ∙ is), λ heard. same q ∙ heard_under q heard)

  pub has_under : (has : ℕ → Bool) → ((q : ℕ) → (has q ≡ true) ↔ HasSubscriber (who_hears t) q)
      → (q : ℕ) → has q ≡ some_under t.clients q
  has_under has is q = same_bool (has q) (some_under t.clients q) (λ there. heard_under q ((is q).0 there))
      (λ some. (is q).1 (under_heard q some))

-- nobody is heard at first
pub hears_nobody : (who : WhoHears) (has : ℕ → Bool) → who ≡ nobody → ((q : ℕ) → has q ≡ false)
    → (q : ℕ) → (has q ≡ true) ↔ HasSubscriber who q
hears_nobody who has none lacks q = (
  λ is. absurd (false≢true (sym (lacks q) ∙ is)),
  λ is. absurd (none-some is.1.subscription (sym (ap (λ (w : WhoHears). w is.0) none) ∙ is.1.there)),
)

-- the same clients are heard, and the set has the same
pub hears_same : (old new : WhoHears) (has now : ℕ → Bool) → new ≡ old → ((q : ℕ) → now q ≡ has q)
    → ((q : ℕ) → (has q ≡ true) ↔ HasSubscriber old q) → (q : ℕ) → (now q ≡ true) ↔ HasSubscriber new q
hears_same old new has now same sets counted q = (
  λ is. subst (λ (w : WhoHears). HasSubscriber w q) (sym same) ((counted q).0 (sym (sets q) ∙ is)),
  λ is. sets q ∙ (counted q).1 (subst (λ (w : WhoHears). HasSubscriber w q) same is),
)

-- ---- the clients, as the set lists them

keys_apart : (keys : List ℕ) → IsDistinct nat_eq keys → AllPairs (λ one other. one ≢ other) keys
keys_apart keys distinct i j d less within same =
    false≢true (sym (apart_from_distinct nat_eq keys i j d distinct less within)
    ∙ eq-eqb (get_or keys i d) (get_or keys j d) same)

pub counts_heard : {S : Type 0} → (set : HashSet ℕ S) (who : WhoHears) → IsUnique nat_eq set
    → ((q : ℕ) → (contains nat_eq set q ≡ true) ↔ HasSubscriber who q) → CountsHeard who (hash_set_len set)
counts_heard set who unique counted = (
  set.keys,
  record {
    once = keys_apart set.keys unique;
    each = λ q.
        let among = hash_set_contains_iff nat_eq_equiv eqb-true set q in
        (λ there. (counted q).0 (among.1 there), λ heard. among.0 ((counted q).1 heard));
  },
  refl,
)

-- ---- what was found

pub found_heard : (who : WhoHears) (client : ℕ) (found : Option ℕ)
    → IfSome found (IsFirstSubscriber who client)
    → is_some found ≡ true → HasSubscriber who client
found_heard who client None first some = absurd (false≢true some)
found_heard who client (Some connection) first some = (connection, first.hears)

pub none_heard : (who : WhoHears) (client : ℕ) (found : Option ℕ)
    → IfNone found ((connection : ℕ) → ¬ SubscribesTo who client connection) → is_some found ≡ false
    → HasSubscriber who client → ⊥
none_heard who client None none is heard = none heard.0 heard.1
none_heard who client (Some connection) none is heard = absurd (true≢false is)
