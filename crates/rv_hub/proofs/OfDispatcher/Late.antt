-- Who has waited as long as it may: the first of them before the others.
use Rattle.std.proofs.Common.{inl, inr, ◌≡◌, ◌<◌, ◌≤◌, ◌∙◌, ◌++◌, ◌∷◌, ◌⊎◌, ℕ, List, [], None, Some, refl}
use Rattle.std.proofs.Common.{sym, ap, subst, arith, append_assoc}
use Rattle.std.specs.Prelude.{slice_index_or}
use Rattle.std.proofs.lemmas.Bool.{cases_eq}
use Rattle.std.proofs.lemmas.List.{append-nil}
use Rattle.std.proofs.lemmas.List.Elements.{All-cons, All-nil}
use Rattle.std.proofs.lemmas.List.Kept.{AllPairs-cons}
use Rattle.rv_text.specs.declared.message.Key.{Key}
use Rattle.rv_text.specs.declared.answer.Answer.{Answer}
use Rattle.rv_text.specs.declared.answer.Answer.TheVariants as answer
use Rattle.rv_session.specs.declared.client.ClientState.{ClientState}
use Rattle.rv_account.specs.state.State.{State}
use Rattle.rv_account.specs.state.Moves.{answer_told, told_again}
use Rattle.rv_server_connections.specs.declared.subscribers.tables.Subscription.{Subscription}
use Rattle.rv_server_connections.specs.subscribers.Subscription.{SetsSubscription, WhoHears}
use Rattle.rv_hub.specs.declared.dispatcher.Dispatcher.{Dispatcher}
use Rattle.rv_hub.specs.dispatcher.View.{DispatcherState, DispatcherTerms}
use Rattle.rv_hub.specs.dispatcher.Telling.{IsToldAgain, WaitsOn}
use Rattle.rv_hub.specs.dispatcher.Effects.{Effect, Does, Closed, Told}
use Rattle.rv_hub.specs.dispatcher.Order.{AreOverdue, TellsOneSubscriber, TellsOverdue, WaitsSooner}
use Rattle.rv_hub.specs.dispatcher.Rest.{SubscribersInTime, SubscribersWait}
use Rattle.rv_hub.specs.dispatcher.Fields.{dispatcher_state, dispatcher_terms}
use Rattle.rv_hub.specs.dispatcher.Going.{GoesTelling, IsNextOverdue, TellsIt, TellsLate}
use Rattle.rv_hub.proofs.OfDispatcher.Rows.{is_other, there_first, there_later}
use Rattle.rv_hub.proofs.OfDispatcher.ToldOne.{fewer_hear}
use Rattle.rv_hub.proofs.OfDispatcher.Tellings.{goes_none, goes_on, same_terms, tells_sets}

pub late_none : (s : DispatcherState) → SubscribersInTime s → AreOverdue s []
late_none s in_time = record {
  order = λ i j d less within. absurd (let h = within in omega arith);
  wait = All-nil (λ (h : ℕ × Subscription). (s.hears h.0 ≡ Some h.1) × (h.1.until ≤ s.now));
  all = λ connection subscription there late. let soon = in_time connection subscription there in
      absurd (omega arith);
}

some_same : {X : Type 0} → (x y : X) → Some x ≡ Some y → x ≡ y
some_same x y same = cc

-- a later one of those that are left comes after the first
comes_behind : (s : DispatcherState) (after : WhoHears) (connection : ℕ) (subscription : Subscription)
    (other : ℕ)
    (its : Subscription)
    → s.hears connection ≡ Some subscription
    → ((n : ℕ) (h : Subscription) → s.hears n ≡ Some h
    → (subscription.until < h.until) ⊎ ((subscription.until ≡ h.until) × (connection ≤ n)))
    → SetsSubscription s.hears connection None after → after other ≡ Some its
    → WaitsSooner (connection, subscription) (other, its)
comes_behind s after connection subscription other its there first sets is =
    let apart = is_other after connection other its sets.own is in
    elim (first other its (fewer_hear s.hears after connection sets other its is)) [
      | inl sooner ↦ inl sooner
      | inr same ↦ let at_most = same.1 in inr (same.0, omega arith)
    ]

pub late_first : (s : DispatcherState) (connection : ℕ) (subscribers : List (ℕ × Subscription))
    (t : DispatcherState) (next : IsNextOverdue s connection)
    → SetsSubscription s.hears connection None t.hears
    → t.now ≡ s.now
    → AreOverdue t subscribers → AreOverdue s ((connection, next.subscription) ∷ subscribers)
late_first s connection subscribers t next sets same rest = record {
  order = AllPairs-cons WaitsSooner (connection, next.subscription) subscribers
      (λ k d within. let it = rest.wait k d within in
      let one = slice_index_or subscribers k d in
      comes_behind s t.hears connection next.subscription one.0 one.1 next.there next.first sets it.0)
      rest.order;
  wait = All-cons (λ (h : ℕ × Subscription). (s.hears h.0 ≡ Some h.1) × (h.1.until ≤ s.now))
      (connection, next.subscription)
      subscribers (next.there, next.overdue)
      (λ k d within. let it = rest.wait k d within in
      let one = slice_index_or subscribers k d in
      let late : one.1.until ≤ s.now = subst (λ n. one.1.until ≤ n) same it.1 in
      (fewer_hear s.hears t.hears connection sets one.0 one.1 it.0, late));
  all = λ other its there late.
      elim (cases_eq other connection) [
        | inl is ↦
            let own : s.hears connection ≡ Some its = ap s.hears (sym is) ∙ there in
            let subscription : next.subscription ≡ its = some_same next.subscription its (sym next.there
            ∙ own) in
            there_first (connection, next.subscription) subscribers (other, its)
            (ap (λ (n : ℕ). (n, next.subscription)) (sym is) ∙ ap (λ (h : Subscription). (other, h))
            subscription)
        | inr apart ↦
            there_later (connection, next.subscription) subscribers (other, its)
            (rest.all other its (sets.others other apart ∙ there) (subst (λ n. its.until ≤ n) (sym same)
            late))
      ];
}

-- ---- what one that waits is told

waits_told : (s : State) (key : Key) (said : Answer) → WaitsOn s key → IsToldAgain s key said
    → said ≡ answer.Waiting key
waits_told s key said waits told =
    let same : told.session ≡ waits.session = some_same told.session waits.session (sym told.there
    ∙ waits.there) in
    elim told.told [
      | inl is ↦
          is.2 ∙ ap (λ (c : ClientState). answer_told key (told_again c.request)) same
          ∙ ap (λ r. answer_told key (told_again r)) waits.waits
      | inr old ↦
          let less = subst (λ (c : ClientState). key.incarnation < c.incarnation) same old.0 in
          let equal = waits.incarnation in
          absurd (omega arith)
    ]

-- one that waits is told so, or closed
tells_so : (terms : DispatcherTerms) (s t : DispatcherState) (connection : ℕ) (effect : Effect)
    (subscription : Subscription)
    → s.hears connection ≡ Some subscription → WaitsOn s.book subscription.key
    → TellsOneSubscriber connection effect
    → Does terms s effect t
    → (effect ≡ Told connection subscription.key (answer.Waiting subscription.key))
    ⊎ (effect ≡ Closed connection)
tells_so terms s t connection (Told n key said) subscription there waits same does =
    let its : does.subscription ≡ subscription = some_same does.subscription subscription
    (sym does.waited ∙ ap s.hears same ∙ there) in
    let key_is : key ≡ subscription.key = sym does.key_is ∙ ap (λ (h : Subscription). h.key) its in
    let said_is : said ≡ answer.Waiting subscription.key =
    waits_told s.book subscription.key said waits (subst (λ k. IsToldAgain s.book k said) key_is does.told) in
    inl (ap (λ m. Told m key said) same ∙ ap (λ k. Told connection k said) key_is
    ∙ ap (λ a. Told connection subscription.key a) said_is)
tells_so terms s t connection (Closed n) subscription there waits same does = inr (ap Closed same)
tells_so terms s t connection effect subscription there waits tells does = absurd tells

-- ---- all of them

pub record TellsLateSoFar (old now : Dispatcher) : Type 0 where
  pub done : List Effect
  pub goes : GoesTelling old done now
  pub waits : SubscribersWait (dispatcher_state now)
  pub leads : (rest : List Effect) (final : DispatcherState)
      → TellsOverdue (dispatcher_terms old) (dispatcher_state now) rest final
      → TellsOverdue (dispatcher_terms old) (dispatcher_state old) (done ++ rest) final

pub late_begun : (d : Dispatcher) → SubscribersWait (dispatcher_state d) → TellsLateSoFar d d
late_begun d waits = record {
  done = [];
  goes = goes_none d;
  waits = waits;
  leads = λ rest final tells. tells;
}

-- the book and the moment stay
same_book : (old new : Dispatcher) (effects : List Effect) → GoesTelling old effects new
    → ((dispatcher_state new).book ≡ (dispatcher_state old).book)
    × ((dispatcher_state new).now ≡ (dispatcher_state old).now)
same_book old new effects goes = (
  ap (λ (d : Dispatcher). (dispatcher_state d).book) goes.rest,
  ap
      (λ (d : Dispatcher). (dispatcher_state d).now) goes.rest,
)

pub still_wait : (s t : DispatcherState) (connection : ℕ) → t.book ≡ s.book
    → SetsSubscription s.hears connection None t.hears
    → SubscribersWait s → SubscribersWait t
still_wait s t connection book sets waits other subscription there =
    subst (λ b. WaitsOn b subscription.key) (sym book)
    (waits other subscription (fewer_hear s.hears t.hears connection sets other subscription there))

pub late_next : (old now new : Dispatcher) (connection : ℕ) → TellsLateSoFar old now
    → IsNextOverdue (dispatcher_state now) connection → TellsIt now connection new → TellsLateSoFar old new
late_next old now new connection far next it =
    let does = subst (λ (terms : DispatcherTerms). Does terms (dispatcher_state now) it.effect
    (dispatcher_state new))
    (same_terms old now far.done far.goes) it.does in
    let sets = tells_sets (dispatcher_terms old) (dispatcher_state now) (dispatcher_state new) connection
    it.effect it.tells does
    in
    let same = same_book now new (it.effect ∷ []) it.goes in
    let so = tells_so (dispatcher_terms old) (dispatcher_state now) (dispatcher_state new) connection
    it.effect next.subscription
    next.there
    (far.waits connection next.subscription next.there) it.tells does in
    record {
      done = far.done ++ it.effect ∷ [];
      goes = goes_on old now new far.done (it.effect ∷ []) far.goes it.goes;
      waits = still_wait (dispatcher_state now) (dispatcher_state new) connection same.0 sets far.waits;
      leads = λ rest final tells.
          subst (λ l. TellsOverdue (dispatcher_terms old) (dispatcher_state old) l final)
          (sym (append_assoc far.done (it.effect ∷ []) rest))
          (far.leads (it.effect ∷ rest) final
          (record {
            subscribers = (connection, next.subscription) ∷ tells.subscribers;
            overdue = late_first (dispatcher_state now) connection tells.subscribers (dispatcher_state new)
                next
                sets same.1 tells.overdue;
            each = (so, tells.each);
            does = (dispatcher_state new, does, tells.does);
          }));
    }

pub late_all : (old new : Dispatcher) → TellsLateSoFar old new → SubscribersInTime (dispatcher_state new)
    → TellsLate old new
late_all old new far in_time = record {
  effects = far.done;
  tells = subst (λ l. TellsOverdue (dispatcher_terms old) (dispatcher_state old) l (dispatcher_state new))
      (append-nil far.done)
      (far.leads [] (dispatcher_state new) (record {
        subscribers = [];
        overdue = late_none (dispatcher_state new) in_time;
        each = refl;
        does = refl;
      }));
  goes = far.goes;
}
