-- Stopping places in turn is stopping them together.
use Rattle.std.proofs.Common.{◌≡◌, ◌++◌, ◌∷◌, ◌∙◌, ◌&&◌, ◌||◌, not, cond, List, [], Bool, true, false}
use Rattle.std.proofs.Common.{Some, refl, sym, ap, nat_eq}
use Rattle.std.specs.Prelude.{filter}
use Rattle.std.specs.List.{list_any}
use Rattle.std.proofs.lemmas.List.Elements.{filter_map-append}
use Rattle.std.proofs.lemmas.List.Folds.{list_any-append}
use Rattle.std.proofs.lemmas.List.Sums.{fold-append}
use Rattle.rv_text.specs.declared.answer.Reply.{Reply}
use Rattle.rv_account.specs.state.State.{OpenPlace, State, Waiter}
use Rattle.rv_account.specs.state.After.{Settled, but, closed, settled_at, stopped, tell}
use Rattle.rv_machine.proofs.OfOpenPlaces.Parted.{but_none, filter_twice}

filter_same : {X : Type 0} (p q : X → Bool) (xs : List X) → ((x : X) → p x ≡ q x) → filter p xs ≡ filter q xs
filter_same p q [] same = refl
filter_same p q (x ∷ xs) same =
    λ i. cond (same x i) (x ∷ filter_same p q xs same i) (filter_same p q xs same i)

neither : (b c : Bool) → (not b && not c) ≡ not (b || c)
neither true c = refl
neither false c = refl

but_twice : (all gone more : List OpenPlace) → but (but all gone) more ≡ but all (gone ++ more)
but_twice all gone more =
    filter_twice (λ (o : OpenPlace). not (list_any (λ (other : OpenPlace). nat_eq other.place o.place) more))
    (λ o. not (list_any (λ (other : OpenPlace). nat_eq other.place o.place) gone)) all
    ∙ filter_same
    (λ (o : OpenPlace). not (list_any (λ (other : OpenPlace). nat_eq other.place o.place) gone)
    && not (list_any (λ (other : OpenPlace). nat_eq other.place o.place) more))
    (λ o. not (list_any (λ (other : OpenPlace). nat_eq other.place o.place) (gone ++ more))) all
    (λ o. neither (list_any (λ (other : OpenPlace). nat_eq other.place o.place) gone)
    (list_any (λ (other : OpenPlace). nat_eq other.place o.place) more)
    ∙ ap not (sym (list_any-append (λ (other : OpenPlace). nat_eq other.place o.place) gone more)))

closed_twice : (s : State) (gone more : List OpenPlace) (first then : List Settled)
    → closed (closed s gone first) more then ≡ closed s (gone ++ more) (first ++ then)
closed_twice s gone more first then =
    let opens = but_twice s.open_places gone more in
    let clients = sym (fold-append tell s.clients first then) in
    λ i. record {
      epoch = s.epoch;
      moment = s.moment;
      length = s.length;
      open_places = opens i;
      clients = clients i;
    }

module _ (s : State) (told : Reply) where
  pub settled_twice : (gone more : List OpenPlace)
      → (stopped s (gone ++ more) told).settles
      ≡ (stopped s gone told).settles ++ (stopped s more told).settles
  settled_twice gone more = filter_map-append (settled_at (λ there key. Some told)) gone more

  pub stopped_twice : (gone more : List OpenPlace)
      → (stopped (stopped s gone told).after more told).after ≡ (stopped s (gone ++ more) told).after
  stopped_twice gone more =
      closed_twice s gone more (stopped s gone told).settles (stopped s more told).settles
      ∙ ap (λ (x : List Settled). closed s (gone ++ more) x) (sym (settled_twice gone more))

  pub stopped_none : (stopped s [] told).after ≡ s
  stopped_none =
      let opens = but_none s.open_places in
      λ i. record {
        epoch = s.epoch;
        moment = s.moment;
        length = s.length;
        open_places = opens i;
        clients = s.clients;
      }

  pub settled_one : (there : OpenPlace) (w : Waiter) → there.waiter ≡ Some w
      → (stopped s (there ∷ []) told).settles ≡ record { key = w.key; reply = told } ∷ []
  settled_one there w waits = rw waits refl

  pub stopped_one : (there : OpenPlace) (w : Waiter) → there.waiter ≡ Some w
      → (stopped s (there ∷ []) told).after ≡ closed s (there ∷ []) (record { key = w.key; reply = told }
      ∷ [])
  stopped_one there w waits = ap (λ (x : List Settled). closed s (there ∷ []) x) (settled_one there w waits)
