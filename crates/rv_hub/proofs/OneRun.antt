-- The events of a hub are effects.
use Rattle.std.proofs.Common.{◌≡◌, ◌∙◌, ◌++◌, ◌∷◌, ◌+◌, ℕ, List, [], refl, sym, ap}
use Rattle.std.proofs.Common.{subst}
use Rattle.std.proofs.Common.{length}
use Rattle.std.specs.Prelude.{Bool, flat_map}
use Rattle.std.proofs.lemmas.Grind.{flat_map-append}
use Rattle.rv_account.specs.declared.entry.Entry.{Entry}
use Rattle.rv_hub.specs.dispatcher.View.{DispatcherState, DispatcherTerms, begun}
use Rattle.rv_hub.specs.dispatcher.Effects.{Effect, entries_of_effect}
use Rattle.rv_hub.specs.dispatcher.Runs.{RunsBook}
use Rattle.rv_hub.specs.EventEffects.{all_effects, causes_of, event_effects}
use Rattle.rv_hub.specs.HubRuns.{DoesEvents, HubAnswer, HubsAreRuns, RefusedEvent, RunsHub}
use Rattle.rv_hub.specs.HubRuns.{TookEvent, made_in, run_effects}
use Rattle.rv_hub.specs.Pasts.{HasPast, Past, past_after}
use Rattle.rv_hub.specs.Turns.{made_by}
use Rattle.rv_hub.proofs.Causes.{effects_follow}
use Rattle.rv_hub.proofs.Histories.{past_on, pasts_kept}
use Rattle.rv_hub.proofs.Longer.{effects_count}
use Rattle.rv_hub.proofs.Whole.{event_does}

-- ---- events as effects

-- these are the effects of the events, and make these entries
record HubEffects (terms : DispatcherTerms) (s : DispatcherState) (made : List Entry) (events :
    List (List Effect))
    (t : DispatcherState) : Type 0
  where
    does : DoesEvents terms s events t
    made_is : made ≡ made_by events

hub_effects : (journal : Bool) (terms : DispatcherTerms) (answers : List HubAnswer) (s t : DispatcherState)
    → (runs : RunsHub journal terms s answers t)
    → HubEffects terms s (made_in answers) (run_effects journal terms answers s t runs) t
hub_effects journal terms [] s t same = record { does = same; made_is = refl }
hub_effects journal terms (TookEvent handed what made given ∷ answers) s t (mid, takes, more) =
    let rest = hub_effects journal terms answers mid t more in
    let own = event_does journal terms s handed what made given mid takes in
    let effects = event_effects journal terms s handed what made given mid takes in
    record {
      does = (mid, own.does, rest.does);
      made_is = ap (λ es. es ++ made_in answers) own.made_is
          ∙ ap (λ es. flat_map entries_of_effect effects ++ es) rest.made_is;
    }
hub_effects journal terms (RefusedEvent ∷ answers) s t more =
    let rest = hub_effects journal terms answers (begun s) t more in
    record { does = (begun s, refl, rest.does); made_is = rest.made_is }

-- of the account one run
events_run : (terms : DispatcherTerms) (events : List (List Effect)) (s t : DispatcherState)
    → DoesEvents terms s events t
    → RunsBook terms.limits s.now s.book (flat_map causes_of (all_effects events)) (made_by events) t.now
    t.book
events_run terms [] s t same =
    (refl, ap (λ (u : DispatcherState). u.now) same, ap (λ (u : DispatcherState). u.book) same)
events_run terms (effects ∷ events) s t (mid, does, more) =
    subst (λ cs. RunsBook terms.limits s.now s.book cs (made_by (effects ∷ events)) t.now t.book)
    (sym (flat_map-append causes_of effects (all_effects events)))
    (effects_follow terms effects (begun s) mid (flat_map causes_of (all_effects events)) (made_by events)
    t.now
    t.book does (events_run terms events mid t more))

-- of each connection its past
events_pasts : (terms : DispatcherTerms) (events : List (List Effect)) (s t : DispatcherState)
    → DoesEvents terms s events t
    → (n : ℕ)
    (past : Past) → HasPast s n past → HasPast t n (past_after n past s.book.length (all_effects events))
events_pasts terms [] s t same n past has = subst (λ (u : DispatcherState). HasPast u n past) (sym same) has
events_pasts terms (effects ∷ events) s t (mid, does, more) n past has =
    let entries = s.book.length in
    let counted : mid.book.length ≡ entries + length (flat_map entries_of_effect effects) =
    effects_count terms effects (begun s) mid does in
    let one = pasts_kept terms effects (begun s) mid does n past has in
    let rest = events_pasts terms events mid t more n (past_after n past entries effects) one in
    subst (λ p. HasPast t n p) (sym (past_on n past entries effects (all_effects events)))
    (subst (λ k. HasPast t n (past_after n (past_after n past entries effects) k (all_effects events)))
    counted
    rest)

pub hubs_are_runs : HubsAreRuns
hubs_are_runs journal terms answers s t runs =
    let events = run_effects journal terms answers s t runs in
    let effects = hub_effects journal terms answers s t runs in
    record {
      does = effects.does;
      made_is = effects.made_is;
      one_run = subst (λ es. RunsBook terms.limits s.now s.book (flat_map causes_of (all_effects events)) es
          t.now t.book) (sym effects.made_is) (events_run terms events s t effects.does);
      pasts = events_pasts terms events s t effects.does;
    }
