-- A connection that is closed through a turn of another had waited.
use Rattle.std.proofs.Common.{inl, inr, ◌≡◌, ◌≢◌, ◌⊎◌, ◌∙◌, ◌∷◌, ℕ, suc, Contains, IsSome, List, [], None}
use Rattle.std.proofs.Common.{Some, ap, arith, refl, subst, sym}
use Rattle.std.specs.Prelude.{All}
use Rattle.std.proofs.lemmas.Bool.{cases_eq}
use Rattle.std.proofs.lemmas.List.Elements.{All-contains}
use Rattle.std.proofs.lemmas.Option.{none-some}
use Rattle.rv_text.specs.declared.message.Key.{Key}
use Rattle.rv_text.specs.declared.answer.Answer.{Answer}
use Rattle.rv_text.specs.declared.answer.Answer.TheVariants as answer
use Rattle.rv_server_connections.specs.subscribers.Subscription.{WhoHears}
use Rattle.rv_hub.specs.dispatcher.View.{DispatcherState, DispatcherTerms}
use Rattle.rv_hub.specs.dispatcher.Effects.{AnswersOrWaits, Effect, Does, DoesAll, settled_by}
use Rattle.rv_hub.specs.dispatcher.Effects.{Asked, Closed, Lacked, Lost, ReadNothing, Told, TookIn}
use Rattle.rv_hub.specs.dispatcher.Order.{IsOwnEffect, RunsStrides, TellsEach, TellsKeys, TellsOneSubscriber}
use Rattle.rv_hub.specs.dispatcher.Runs.{OthersWaited}
use Rattle.rv_hub.specs.dispatcher.Telling.{HearsAt}
use Rattle.rv_hub.proofs.OfDispatcher.Others.{own_kept}
use Rattle.rv_hub.proofs.OfDispatcher.Rows.{there_first, there_later}

-- a connection is as it was, and so is its waiting; or it waited
abbrev IsTied : DispatcherState → ℕ → DispatcherState → Type 0
IsTied s n t = ((t.hears n ≡ s.hears n) × (t.open_wires.wires n ≡ s.open_wires.wires n))
    ⊎ IsSome (s.hears n)

tie_on : (s m t : DispatcherState) (n : ℕ) → IsTied s n m → IsTied m n t → IsTied s n t
tie_on s m t n (inr waited) rest = inr waited
tie_on s m t n (inl same) (inl still) = inl (still.0 ∙ same.0, still.1 ∙ same.1)
tie_on s m t n (inl same) (inr waited) = inr (subst IsSome same.0 waited)

-- ---- an effect of another connection's own

answers_hears : (terms : DispatcherTerms) (s t : DispatcherState) (m : ℕ) (body : List ℕ) (said : Answer)
    → AnswersOrWaits terms s m body said t → (n : ℕ) → n ≢ m → t.hears n ≡ s.hears n
answers_hears terms s t m body (answer.Waiting key) does n apart = does.hears.others n apart
answers_hears terms s t m body (answer.Replied key reply) does n apart =
    ap (λ (u : DispatcherState). u.hears n) does.answers.rest
answers_hears terms s t m body (answer.Welcome epoch client incarnation version) does n apart =
    ap (λ (u : DispatcherState). u.hears n) does.answers.rest
answers_hears terms s t m body (answer.Refused refusal) does n apart =
    ap (λ (u : DispatcherState). u.hears n) does.answers.rest

own_hears : (terms : DispatcherTerms) (s t : DispatcherState) (connection : ℕ) (effect : Effect)
    → IsOwnEffect connection effect
    → Does terms s effect t → (n : ℕ) → n ≢ connection → t.hears n ≡ s.hears n
own_hears terms s t connection (TookIn m bytes) own does n apart =
    ap (λ (u : DispatcherState). u.hears n) does.rest
own_hears terms s t connection (Asked m body step said) own does n apart =
    answers_hears terms does.between t m body said does.rest n (λ same. apart (same ∙ own))
    ∙ ap (λ (u : DispatcherState). u.hears n) does.steps.after
own_hears terms s t connection (ReadNothing m body) own does n apart =
    ap (λ (u : DispatcherState). u.hears n) does.answers.answers.rest
own_hears terms s t connection (Lacked m body None) own does n apart =
    ap (λ (u : DispatcherState). u.hears n) does.answers.answers.rest
    ∙ ap (λ (u : DispatcherState). u.hears n) does.stepped
own_hears terms s t connection (Lacked m body (Some step)) own does n apart =
    ap (λ (u : DispatcherState). u.hears n) does.answers.answers.rest
    ∙ ap (λ (u : DispatcherState). u.hears n) does.stepped.steps.after
own_hears terms s t connection (Lost m body step) own does n apart =
    does.closes.hears.others n (λ same. apart (same ∙ own))
    ∙ ap (λ (u : DispatcherState). u.hears n) does.stepped.steps.after
own_hears terms s t connection (Closed m) own does n apart =
    does.hears.others n (λ same. apart (same ∙ own))
own_hears terms s t connection effect own does n apart = absurd own

-- ---- a telling

one_tied : (terms : DispatcherTerms) (s t : DispatcherState) (m : ℕ) (effect : Effect)
    → TellsOneSubscriber m effect
    → Does terms s effect t → (n : ℕ) → n ≢ m → IsTied s n t
one_tied terms s t m (Told k key said) tells does n apart =
    let other : n ≢ k = λ same. apart (same ∙ tells) in
    inl (does.hears.others n other, does.answers.sets.others n other)
one_tied terms s t m (Closed k) tells does n apart =
    let other : n ≢ k = λ same. apart (same ∙ tells) in
    inl (does.hears.others n other, does.sets.others n other)
one_tied terms s t m effect tells does n apart = absurd tells

each_tied : (terms : DispatcherTerms) (start s t : DispatcherState) (n : ℕ) (row : List ℕ) (effects :
    List Effect)
    → ((k : ℕ) → Contains row k → IsSome (start.hears k)) → IsTied start n s → TellsEach row effects
    → DoesAll terms s effects t → IsTied start n t
each_tied terms start s t n [] effects hear tied none does =
    subst (λ (u : DispatcherState). IsTied start n u) (sym (subst (λ ds. DoesAll terms s ds t) none does))
    tied
each_tied terms start s t n (m ∷ row) [] hear tied tells does = absurd tells
each_tied terms start s t n (m ∷ row) (effect ∷ effects) hear tied (one, each) (mid, does, more) =
    let now : IsTied start n mid = elim (cases_eq n m) [
      | inl same ↦ inr (hear n (there_first m row n (sym same)))
      | inr apart ↦ tie_on start s mid n tied (one_tied terms s mid m effect one does n apart)
    ] in
    each_tied terms start mid t n row effects (λ k there. hear k (there_later m row k there)) now each more

hears_some : (who : WhoHears) (keys : List Key) (n : ℕ) → (place : ℕ) × HearsAt who keys n place
    → IsSome (who n)
hears_some who keys n (place, at) = subst IsSome (sym at.hears.there) refl

keys_tied : (terms : DispatcherTerms) (s t : DispatcherState) (keys : List Key) (effects : List Effect)
    → TellsKeys terms s keys effects t → (n : ℕ) → IsTied s n t
keys_tied terms s t keys effects tells n =
    each_tied terms s s t n tells.row effects
    (λ k there. hears_some s.hears keys k
    (All-contains (λ (k : ℕ). (place : ℕ) × HearsAt s.hears keys k place) tells.row k tells.subscribers.hear
    there))
    (inl (refl, refl)) tells.each tells.does

-- ---- a whole turn

strides_tied : (terms : DispatcherTerms) (s t : DispatcherState) (connection : ℕ) (left : List ℕ)
    (strides : List (Effect × List Effect)) → All (λ x. IsOwnEffect connection x.0) strides
    → RunsStrides terms s left strides t → (n : ℕ) → n ≢ connection → IsTied s n t
strides_tied terms s t connection left [] own same n apart =
    inl (
      ap (λ (u : DispatcherState). u.hears n) same,
      ap (λ (u : DispatcherState). u.open_wires.wires n)
          same,
    )
strides_tied terms s t connection left (stride ∷ strides) own (mid, may, one, more) n apart =
    let first = own 0 stride (omega arith) in
    let others : All (λ (x : Effect × List Effect). IsOwnEffect connection x.0) strides =
    λ k d within. own (suc k) d (let h = within in omega arith) in
    let effect : IsTied s n one.between =
    inl (
      own_hears terms s one.between connection stride.0 first one.does n apart,
      own_kept terms s one.between connection stride.0 first one.does n apart,
    ) in
    tie_on s mid t n
    (tie_on s one.between mid n effect
    (keys_tied terms one.between mid (settled_by stride.0) stride.1 one.told n))
    (strides_tied terms mid t connection _ strides others more n apart)

pub others_waited : OthersWaited
others_waited terms old new connection piece effects count turn other apart wire there gone =
    elim (strides_tied terms old new connection piece turn.strides turn.own turn.runs other apart) [
      | inl same ↦ absurd (none-some wire (sym gone ∙ same.1 ∙ there))
      | inr waited ↦ waited
    ]
