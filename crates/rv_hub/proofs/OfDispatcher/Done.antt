-- After a telling, nobody that was to be told still waits, and nobody begins to wait.
use Rattle.std.proofs.Common.{◌≡◌, ◌∙◌, ℕ, zero, suc, List, [], ◌∷◌, Some, sym, ap, subst, arith}
use Rattle.std.specs.Prelude.{Contains, slice_get}
use Rattle.rv_text.specs.declared.message.Key.{Key}
use Rattle.rv_server_connections.specs.declared.subscribers.tables.Subscription.{Subscription}
use Rattle.rv_server_connections.specs.subscribers.Subscription.{SubscribesTo}
use Rattle.rv_hub.specs.dispatcher.View.{DispatcherState, DispatcherTerms}
use Rattle.rv_hub.specs.dispatcher.Effects.{Effect, DoesAll}
use Rattle.rv_hub.specs.dispatcher.Order.{TellsEach, TellsKeys}
use Rattle.rv_hub.specs.dispatcher.Going.{TellsClient}
use Rattle.rv_hub.proofs.OfDispatcher.Rows.{is_other, there_first, there_later}
use Rattle.rv_hub.proofs.OfDispatcher.ToldOne.{fewer_hear}
use Rattle.rv_hub.proofs.OfDispatcher.Tellings.{tells_sets}

-- an element of a list is its first or one of the others
pub in_parts : (x : ℕ) (xs : List ℕ) (y : ℕ) → Contains (x ∷ xs) y → (x ≡ y → ⊥) → Contains xs y
in_parts x xs y (zero, within, is) apart = absurd (apart is)
in_parts x xs y (suc k, within, is) apart = (k, (let h = within in omega arith), is)

pub each_done : (terms : DispatcherTerms) (s t : DispatcherState) (row : List ℕ) (effects : List Effect)
    → TellsEach row effects
    → DoesAll terms s effects t → (connection : ℕ) (subscription : Subscription)
    → t.hears connection ≡ Some subscription
    → (s.hears connection ≡ Some subscription) × (Contains row connection → ⊥)
each_done terms s t [] effects none does connection subscription there =
    let same = subst (λ ds. DoesAll terms s ds t) none does in (
      ap (λ (u : DispatcherState). u.hears connection) (sym same) ∙ there,
      λ among. (let within = among.1 in absurd (omega arith)),
    )
each_done terms s t (n ∷ row) [] none does connection subscription there = absurd none
each_done terms s t (n ∷ row) (effect ∷ effects) (tells, each) (mid, does, more) connection subscription
    there =
    let later = each_done terms mid t row effects each more connection subscription there in
    let sets = tells_sets terms s mid n effect tells does in
    let apart = is_other mid.hears n connection subscription sets.own later.0 in (
      fewer_hear s.hears mid.hears n sets connection subscription later.0,
      λ among. later.1 (in_parts n row connection among (λ same. apart (sym same))),
    )

pub client_done : (terms : DispatcherTerms) (s t : DispatcherState) (client : ℕ) (effects : List Effect)
    → TellsClient terms s client effects t
    → ((connection : ℕ) (subscription : Subscription) → t.hears connection ≡ Some subscription
    → s.hears connection ≡ Some
    subscription)
    × ((connection : ℕ) → ¬ SubscribesTo t.hears client connection)
client_done terms s t client effects tells = (
  λ connection subscription there. (each_done terms s t tells.row effects tells.each tells.does connection
      subscription
      there).0,
  λ connection hears.
      let it = each_done terms s t tells.row effects tells.each tells.does connection hears.subscription
      hears.there
      in
      it.1 (tells.subscribers.all connection (record {
        subscription = hears.subscription;
        there = it.0;
        same =
            hears.same;
      })),
)

-- whoever isn't among them waits as before
pub each_still : (terms : DispatcherTerms) (s t : DispatcherState) (row : List ℕ) (effects : List Effect)
    → TellsEach row effects → DoesAll terms s effects t → (n : ℕ) → (Contains row n → ⊥)
    → t.hears n ≡ s.hears n
each_still terms s t [] effects none does n apart =
    ap (λ (u : DispatcherState). u.hears n) (subst (λ ds. DoesAll terms s ds t) none does)
each_still terms s t (m ∷ row) [] none does n apart = absurd none
each_still terms s t (m ∷ row) (effect ∷ effects) (tells, each) (mid, does, more) n apart =
    let sets = tells_sets terms s mid m effect tells does in
    each_still terms mid t row effects each more n (λ among. apart (there_later m row n among))
    ∙ sets.others n (λ same. apart (there_first m row n (sym same)))

pub keys_fewer : (terms : DispatcherTerms) (s t : DispatcherState) (keys : List Key) (effects : List Effect)
    → TellsKeys terms s keys effects t → (connection : ℕ) (subscription : Subscription)
    → t.hears connection ≡ Some subscription
    → s.hears connection ≡ Some subscription
keys_fewer terms s t keys effects tells connection subscription there =
    (each_done terms s t tells.row effects tells.each tells.does connection subscription there).0

pub keys_done : (terms : DispatcherTerms) (s t : DispatcherState) (keys : List Key) (effects : List Effect)
    → TellsKeys terms s keys effects t → (i : ℕ) (key : Key) → slice_get keys i ≡ Some key
    → (connection : ℕ) → ¬ SubscribesTo t.hears key.client connection
keys_done terms s t keys effects tells i key at connection hears =
    let it = each_done terms s t tells.row effects tells.each tells.does connection hears.subscription
    hears.there in
    it.1 (tells.subscribers.all connection i key at (record {
      subscription = hears.subscription;
      there = it.0;
      same = hears.same;
    }))
