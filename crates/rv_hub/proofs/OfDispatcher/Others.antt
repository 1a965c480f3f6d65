-- What a turn leaves of the other connections: they stay as they are, or are closed, or told.
use Rattle.std.proofs.Common.{inl, inr, ◌≡◌, ◌≢◌, ◌∙◌, ◌++◌, ◌∷◌, ℕ, suc, List, [], None, Some, refl, sym, ap}
use Rattle.std.proofs.Common.{subst, arith}
use Rattle.std.specs.Prelude.{All}
use Rattle.std.proofs.lemmas.Bool.{cases_eq}
use Rattle.std.proofs.lemmas.Grind.{flat_map-append}
use Rattle.std.proofs.lemmas.List.Elements.{Contains-append_left, Contains-append_right}
use Rattle.rv_text.specs.declared.message.Key.{Key}
use Rattle.rv_text.specs.declared.answer.Answer.{Answer}
use Rattle.rv_text.specs.declared.answer.Answer.TheVariants as answer
use Rattle.rv_hub.specs.dispatcher.View.{DispatcherState, DispatcherTerms}
use Rattle.rv_hub.specs.dispatcher.Effects.{AnswersOrWaits, Effect, Does, DoesAll, settled_by, told_of_effect}
use Rattle.rv_hub.specs.dispatcher.Effects.{told_in_effects, Asked, Closed, Lacked, Lost, ReadNothing, Told}
use Rattle.rv_hub.specs.dispatcher.Effects.{TookIn}
use Rattle.rv_hub.specs.dispatcher.Order.{IsOwnEffect, RunsStrides, TellsEach, TellsKeys, TellsOneSubscriber}
use Rattle.rv_hub.specs.dispatcher.Order.{effects_of}
use Rattle.rv_hub.specs.dispatcher.Runs.{StaysOrTold, OthersStay}
use Rattle.rv_hub.proofs.OfDispatcher.Rows.{there_first}

pub kept_on : (s m t : DispatcherState) (one other : List ℕ) (n : ℕ) → StaysOrTold s one n m
    → StaysOrTold m other n t
    → StaysOrTold s (one ++ other) n t
kept_on s m t one other n (inl same) (inl still) = inl (still ∙ same)
kept_on s m t one other n (inr (inl closed)) (inl still) = inr (inl (still ∙ closed))
kept_on s m t one other n (inr (inr told)) rest = inr (inr (Contains-append_left one other n told))
kept_on s m t one other n (inl same) (inr (inl closed)) = inr (inl closed)
kept_on s m t one other n (inr (inl gone)) (inr (inl closed)) = inr (inl closed)
kept_on s m t one other n (inl same) (inr (inr told)) = inr (inr (Contains-append_right one other n told))
kept_on s m t one other n (inr (inl gone)) (inr (inr told)) =
    inr (inr (Contains-append_right one other n told))

-- ---- a telling

one_kept : (terms : DispatcherTerms) (s t : DispatcherState) (connection : ℕ) (effect : Effect)
    → TellsOneSubscriber connection effect
    → Does terms s effect t → (n : ℕ) → StaysOrTold s (told_of_effect effect) n t
one_kept terms s t connection (Told m key said) tells does n =
    elim (cases_eq n m) [
      | inl same ↦ inr (inr (there_first m [] n (sym same)))
      | inr apart ↦ inl (does.answers.sets.others n apart)
    ]
one_kept terms s t connection (Closed m) tells does n =
    elim (cases_eq n m) [
      | inl same ↦ inr (inl (ap t.open_wires.wires same ∙ does.sets.own))
      | inr apart ↦ inl (does.sets.others n apart)
    ]
one_kept terms s t connection effect tells does n = absurd tells

each_kept : (terms : DispatcherTerms) (s t : DispatcherState) (row : List ℕ) (effects : List Effect)
    → TellsEach row effects
    → DoesAll terms s effects t → (n : ℕ) → StaysOrTold s (told_in_effects effects) n t
each_kept terms s t [] effects none does n =
    inl (ap (λ (u : DispatcherState). u.open_wires.wires n) (subst (λ ds. DoesAll terms s ds t) none does))
each_kept terms s t (m ∷ row) [] tells does n = absurd tells
each_kept terms s t (m ∷ row) (effect ∷ effects) (one, each) (mid, does, more) n =
    kept_on s mid t (told_of_effect effect) (told_in_effects effects) n (one_kept terms s mid m effect one
    does n)
    (each_kept terms mid t row effects each more n)

pub keys_kept : (terms : DispatcherTerms) (s t : DispatcherState) (keys : List Key) (effects : List Effect)
    → TellsKeys terms s keys effects t → (n : ℕ) → StaysOrTold s (told_in_effects effects) n t
keys_kept terms s t keys effects tells n = each_kept terms s t tells.row effects tells.each tells.does n

-- ---- an effect of another connection's own

answers_kept : (terms : DispatcherTerms) (s t : DispatcherState) (connection : ℕ) (body : List ℕ) (said :
    Answer)
    → AnswersOrWaits terms s connection body said t → (n : ℕ) → n ≢ connection
    → t.open_wires.wires n ≡ s.open_wires.wires n
answers_kept terms s t connection body (answer.Waiting key) does n apart = does.takes.sets.others n apart
answers_kept terms s t connection body (answer.Replied key reply) does n apart =
    does.answers.changes.sets.others n apart
answers_kept terms s t connection body (answer.Welcome epoch client incarnation version) does n apart =
    does.answers.changes.sets.others n apart
answers_kept terms s t connection body (answer.Refused refusal) does n apart =
    does.answers.changes.sets.others n apart

pub own_kept : (terms : DispatcherTerms) (s t : DispatcherState) (connection : ℕ) (effect : Effect)
    → IsOwnEffect connection effect
    → Does terms s effect t → (n : ℕ) → n ≢ connection → t.open_wires.wires n ≡ s.open_wires.wires n
own_kept terms s t connection (TookIn m bytes) own does n apart =
    does.changes.sets.others n (λ same. apart (same ∙ own))
own_kept terms s t connection (Asked m body step said) own does n apart =
    answers_kept terms does.between t m body said does.rest n (λ same. apart (same ∙ own))
    ∙ ap (λ (u : DispatcherState). u.open_wires.wires n) does.steps.after
own_kept terms s t connection (ReadNothing m body) own does n apart =
    does.answers.answers.changes.sets.others n (λ same. apart (same ∙ own))
own_kept terms s t connection (Lacked m body None) own does n apart =
    does.answers.answers.changes.sets.others n (λ same. apart (same ∙ own))
    ∙ ap (λ (u : DispatcherState). u.open_wires.wires n) does.stepped
own_kept terms s t connection (Lacked m body (Some step)) own does n apart =
    does.answers.answers.changes.sets.others n (λ same. apart (same ∙ own))
    ∙ ap (λ (u : DispatcherState). u.open_wires.wires n) does.stepped.steps.after
own_kept terms s t connection (Lost m body step) own does n apart =
    does.closes.sets.others n (λ same. apart (same ∙ own))
    ∙ ap (λ (u : DispatcherState). u.open_wires.wires n) does.stepped.steps.after
own_kept terms s t connection (Closed m) own does n apart = does.sets.others n (λ same. apart (same ∙ own))
own_kept terms s t connection effect own does n apart = absurd own

own_tells_nobody : (connection : ℕ) (effect : Effect) → IsOwnEffect connection effect
    → told_of_effect effect ≡ []
own_tells_nobody connection (TookIn m bytes) own = refl
own_tells_nobody connection (Asked m body step said) own = refl
own_tells_nobody connection (ReadNothing m body) own = refl
own_tells_nobody connection (Lacked m body step) own = refl
own_tells_nobody connection (Lost m body step) own = refl
own_tells_nobody connection (Closed m) own = refl
own_tells_nobody connection effect own = absurd own

-- ---- a whole turn

pub strides_kept : (terms : DispatcherTerms) (s t : DispatcherState) (connection : ℕ) (left : List ℕ)
    (strides : List (Effect × List Effect)) → All (λ x. IsOwnEffect connection x.0) strides
    → RunsStrides terms s left strides t → (n : ℕ) → n ≢ connection
    → StaysOrTold s (told_in_effects (effects_of strides)) n t
strides_kept terms s t connection left [] own same n apart =
    inl (ap (λ (u : DispatcherState). u.open_wires.wires n)
    same)
strides_kept terms s t connection left (stride ∷ strides) own (mid, may, one, more) n apart =
    let first = own 0 stride (omega arith) in
    let others : All (λ (x : Effect × List Effect). IsOwnEffect connection x.0) strides =
    λ k d within. own (suc k) d (let h = within in omega arith) in
    let effect : StaysOrTold s (told_of_effect stride.0) n one.between =
    inl (own_kept terms s one.between connection stride.0 first one.does n apart) in
    let tells = keys_kept terms one.between mid (settled_by stride.0) stride.1 one.told n in
    subst (λ told. StaysOrTold s told n t)
    (sym (flat_map-append told_of_effect (stride.0 ∷ stride.1) (effects_of strides)))
    (kept_on s mid t (told_in_effects (stride.0 ∷ stride.1)) (told_in_effects (effects_of strides)) n
    (kept_on s one.between mid (told_of_effect stride.0) (told_in_effects stride.1) n effect tells)
    (strides_kept terms mid t connection _ strides others more n apart))

pub others_stay : OthersStay
others_stay terms old new connection piece effects count turn other apart =
    subst (λ ds. StaysOrTold old (told_in_effects ds) other new) (sym turn.effects_are)
    (strides_kept terms old new connection piece turn.strides turn.own turn.runs other apart)
