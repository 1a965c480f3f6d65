-- Of what is written a hub knows what it is told, and no more.
use Rattle.std.proofs.Common.{◌≡◌, ◌≤◌, ◌∙◌, ◌⊎◌, ◌∷◌, ℕ, suc, List, [], None, Some, true, ap, arith}
use Rattle.std.proofs.Common.{inl, inr, length, refl, subst, sym}
use Rattle.std.specs.Prelude.{All, slice_get}
use Rattle.rv_account.specs.declared.entry.Entry.{Entry}
use Rattle.rv_text.specs.declared.answer.Answer.{Answer}
use Rattle.rv_text.specs.declared.answer.Answer.TheVariants as answer
use Rattle.rv_server_connections.specs.declared.subscribers.tables.Subscription.{Subscription}
use Rattle.rv_hub.specs.dispatcher.View.{DispatcherState, DispatcherTerms, begun}
use Rattle.rv_hub.specs.dispatcher.Effects.{AnswersOrWaits, Effect, Does, DoesAll}
use Rattle.rv_hub.specs.dispatcher.Effects.{Asked, Closed, Elapsed, EndedInput, Lacked, Left, Lost, Opened}
use Rattle.rv_hub.specs.dispatcher.Effects.{ReadNothing, Told, TookIn, Wrote}
use Rattle.rv_hub.specs.dispatcher.Order.{IsOwnEffect, IsStride, RunsStrides, TellsEach, TellsOneSubscriber}
use Rattle.rv_hub.specs.dispatcher.Order.{TellsStillWaiting}
use Rattle.rv_hub.specs.declared.events.HubEvent.{HubEvent}
use Rattle.rv_hub.specs.declared.events.HubEvent.TheVariants as event
use Rattle.rv_hub.specs.Turns.{EventGoesOn, Offered, RunsTurns, TakesEvent, own_effects}
use Rattle.rv_engine.specs.Handing.{TellsStored}

-- as many entries are written as were
abbrev IsSame : DispatcherState → DispatcherState → Type 0
IsSame s t = t.open_wires.written ≡ s.open_wires.written

-- the effect isn't that entries are written
abbrev WritesNone : Effect → Type 0
WritesNone (Wrote entries) = ⊥
WritesNone effect = Unit {0}

answers_same : (terms : DispatcherTerms) (s t : DispatcherState) (n : ℕ) (body : List ℕ) (said : Answer)
    → AnswersOrWaits terms s n body said t → IsSame s t
answers_same terms s t n body (answer.Waiting key) does = does.takes.sets.written
answers_same terms s t n body (answer.Replied key reply) does = does.answers.changes.sets.written
answers_same terms s t n body (answer.Welcome epoch client incarnation version) does =
    does.answers.changes.sets.written
answers_same terms s t n body (answer.Refused refusal) does = does.answers.changes.sets.written

effect_same : (terms : DispatcherTerms) (effect : Effect) (s t : DispatcherState) → Does terms s effect t
    → WritesNone effect
    → IsSame s t
effect_same terms (Elapsed moment entries settled) s t does none =
    ap (λ (u : DispatcherState). u.open_wires.written) does.after
effect_same terms (Opened n) s t does none = does.opens.sets.written
effect_same terms (TookIn n bytes) s t does none = does.changes.sets.written
effect_same terms (EndedInput n) s t does none = does.changes.sets.written
effect_same terms (Left n count) s t does none = does.changes.sets.written
effect_same terms (Wrote entries) s t does none = absurd none
effect_same terms (Asked n body step said) s t does none =
    answers_same terms does.between t n body said does.rest
    ∙ ap (λ (u : DispatcherState). u.open_wires.written) does.steps.after
effect_same terms (ReadNothing n body) s t does none = does.answers.answers.changes.sets.written
effect_same terms (Lacked n body None) s t does none =
    does.answers.answers.changes.sets.written ∙ ap (λ (u : DispatcherState). u.open_wires.written)
    does.stepped
effect_same terms (Lacked n body (Some step)) s t does none =
    does.answers.answers.changes.sets.written
    ∙ ap (λ (u : DispatcherState). u.open_wires.written) does.stepped.steps.after
effect_same terms (Lost n body step) s t does none =
    does.closes.sets.written ∙ ap (λ (u : DispatcherState). u.open_wires.written) does.stepped.steps.after
effect_same terms (Told n key said) s t does none = does.answers.sets.written
effect_same terms (Closed n) s t does none = does.sets.written

-- ---- who is told

subscriber_none : (n : ℕ) (effect : Effect) → TellsOneSubscriber n effect → WritesNone effect
subscriber_none n (Told m key said) tells = tt
subscriber_none n (Closed m) tells = tt
subscriber_none n effect tells = absurd tells

each_same : (terms : DispatcherTerms) (row : List ℕ) (effects : List Effect) (s t : DispatcherState)
    → TellsEach row effects
    → DoesAll terms s effects t → IsSame s t
each_same terms [] effects s t none does =
    ap (λ (u : DispatcherState). u.open_wires.written) (subst (λ ds. DoesAll terms s ds t) none does)
each_same terms (n ∷ row) [] s t tells does = absurd tells
each_same terms (n ∷ row) (effect ∷ effects) s t (one, each) (mid, does, more) =
    each_same terms row effects mid t each more ∙ effect_same terms effect s mid does
    (subscriber_none n effect one)

late_none : (n : ℕ) (subscription : Subscription) (effect : Effect)
    → (effect ≡ Told n subscription.key (answer.Waiting subscription.key)) ⊎ (effect ≡ Closed n)
    → WritesNone effect
late_none n subscription effect (inl told) = subst WritesNone (sym told) tt
late_none n subscription effect (inr closed) = subst WritesNone (sym closed) tt

late_same : (terms : DispatcherTerms) (subscribers : List (ℕ × Subscription)) (effects : List Effect)
    (s t : DispatcherState)
    → TellsStillWaiting subscribers effects → DoesAll terms s effects t → IsSame s t
late_same terms [] effects s t none does =
    ap (λ (u : DispatcherState). u.open_wires.written) (subst (λ ds. DoesAll terms s ds t) none does)
late_same terms (subscriber ∷ subscribers) [] s t tells does = absurd tells
late_same terms (subscriber ∷ subscribers) (effect ∷ effects) s t (one, each) (mid, does, more) =
    late_same terms subscribers effects mid t each more
    ∙ effect_same terms effect s mid does (late_none subscriber.0 subscriber.1 effect one)

-- ---- turns

own_none : (n : ℕ) (effect : Effect) → IsOwnEffect n effect → WritesNone effect
own_none n (TookIn m bytes) own = tt
own_none n (Asked m body step said) own = tt
own_none n (ReadNothing m body) own = tt
own_none n (Lacked m body step) own = tt
own_none n (Lost m body step) own = tt
own_none n (Closed m) own = tt
own_none n effect own = absurd own

stride_same : (terms : DispatcherTerms) (s t : DispatcherState) (effect : Effect) (tells : List Effect)
    → WritesNone effect
    → IsStride terms s effect tells t → IsSame s t
stride_same terms s t effect tells none stride =
    each_same terms stride.told.row tells stride.between t stride.told.each stride.told.does
    ∙ effect_same terms effect s stride.between stride.does none

strides_same : (terms : DispatcherTerms) (n : ℕ) (left : List ℕ) (strides : List (Effect × List Effect))
    (s t : DispatcherState) → All (λ x. IsOwnEffect n x.0) strides → RunsStrides terms s left strides t
    → IsSame s t
strides_same terms n left [] s t own same = ap (λ (u : DispatcherState). u.open_wires.written) same
strides_same terms n left (stride ∷ strides) s t own (mid, may, one, more) =
    let first = own 0 stride (omega arith) in
    let others : All (λ (x : Effect × List Effect). IsOwnEffect n x.0) strides =
    λ k d within. own (suc k) d (let h = within in omega arith) in
    strides_same terms n _ strides mid t others more
    ∙ stride_same terms s mid stride.0 stride.1 (own_none n stride.0 first) one

chain_same : (turns : List (List Effect)) (states : ℕ → DispatcherState)
    → ((place : ℕ) (effects : List Effect) → slice_get turns place ≡ Some effects
    → IsSame (states place) (states (suc place)))
    → IsSame (states 0) (states (length turns))
chain_same [] states each = refl
chain_same (effects ∷ turns) states each =
    chain_same turns (λ i. states (suc i)) (λ place. each (suc place)) ∙ each 0 effects refl

turns_same : (terms : DispatcherTerms) (s t : DispatcherState) (offer : Offered) (row : List ℕ)
    (turns : List (List Effect)) (count : ℕ) → RunsTurns terms s offer row turns count t → IsSame s t
turns_same terms s t offer row turns count runs =
    subst (λ (u : DispatcherState). IsSame s u) runs.ends
    (subst (λ (u : DispatcherState). IsSame u (runs.states (length turns))) runs.begins
    (chain_same turns runs.states (λ place effects at.
    let its = runs.each place effects at in
    strides_same terms its.connection _ its.turn.turn.strides (runs.states place) (runs.states (suc place))
    its.turn.turn.own its.turn.turn.runs)))

goes_same : (terms : DispatcherTerms) (s : DispatcherState) (handed : ℕ) (what : HubEvent) (made : List Entry)
    (taken : ℕ)
    (t : DispatcherState) → EventGoesOn terms s handed what made taken t → IsSame s t
goes_same terms s handed what made taken t goes =
    turns_same terms goes.after_overdue t _ _ goes.turns taken goes.runs
    ∙ (late_same terms goes.tells.subscribers goes.overdue goes.after_time goes.after_overdue goes.tells.each
    goes.tells.does ∙ stride_same terms s goes.after_time _ goes.ended tt goes.time)

-- ---- an event

own_within : (terms : DispatcherTerms) (what : HubEvent) (number : ℕ) (s t : DispatcherState) (stored : ℕ)
    → DoesAll terms s (own_effects what number) t → TellsStored what stored → s.open_wires.written ≤ stored
    → t.open_wires.written ≤ stored
own_within terms event.Opened number s t stored (mid, does, same) tells within =
    subst (λ (n : ℕ). n ≤ stored)
    (sym (ap (λ (u : DispatcherState). u.open_wires.written) same ∙ does.opens.sets.written)) within
own_within terms (event.Came n piece) number s t stored same tells within =
    subst (λ (n : ℕ). n ≤ stored) (sym (ap (λ (u : DispatcherState). u.open_wires.written) same)) within
own_within terms (event.Ended n) number s t stored (mid, does, same) tells within =
    subst (λ (n : ℕ). n ≤ stored)
    (sym (ap (λ (u : DispatcherState). u.open_wires.written) same ∙ does.changes.sets.written)) within
own_within terms (event.Gone n) number s t stored (mid, does, same) tells within =
    subst (λ (n : ℕ). n ≤ stored)
    (sym (ap (λ (u : DispatcherState). u.open_wires.written) same ∙ does.sets.written)) within
own_within terms (event.Took n count) number s t stored (mid, does, same) tells within =
    subst (λ (n : ℕ). n ≤ stored)
    (sym (ap (λ (u : DispatcherState). u.open_wires.written) same ∙ does.changes.sets.written)) within
own_within terms (event.Written entries) number s t stored (mid, does, same) tells within =
    subst (λ (n : ℕ). n ≤ stored)
    (sym (ap (λ (u : DispatcherState). u.open_wires.written) same ∙ does.releases.written_is)) tells
own_within terms event.Passed number s t stored same tells within =
    subst (λ (n : ℕ). n ≤ stored) (sym (ap (λ (u : DispatcherState). u.open_wires.written) same)) within

-- with a journal no more is written after an event than is stored
pub told_within : (terms : DispatcherTerms) (s : DispatcherState) (handed : ℕ) (what : HubEvent) (made :
    List Entry)
    (given : ℕ) (t : DispatcherState) (stored : ℕ) → TakesEvent true terms s handed what made given t
    → TellsStored what stored → s.open_wires.written ≤ stored → t.open_wires.written ≤ stored
told_within terms s handed what made given t stored takes tells within =
    subst (λ (n : ℕ). n ≤ stored)
    (sym (ap (λ (u : DispatcherState). u.open_wires.written) takes.last
    ∙ goes_same terms takes.after_own handed what made takes.taken takes.after_turns takes.goes_on))
    (own_within terms what takes.number (begun s) takes.after_own stored takes.own tells within)
