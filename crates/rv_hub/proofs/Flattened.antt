-- An event's effects in one list, and the entries that they make.
use Rattle.std.proofs.Common.{◌≡◌, ◌∙◌, ◌++◌, ◌∷◌, ℕ, suc, List, [], Some, length, refl, sym, ap, subst}
use Rattle.std.specs.Prelude.{flat_map, slice_get}
use Rattle.std.proofs.lemmas.Grind.{flat_map-append}
use Rattle.rv_hub.specs.dispatcher.View.{DispatcherState, DispatcherTerms}
use Rattle.rv_hub.specs.dispatcher.Effects.{Effect, DoesAll, entries_of_effect}
use Rattle.rv_hub.specs.dispatcher.Order.{IsStride, IsTurn, RunsStrides, effects_of}
use Rattle.rv_hub.proofs.OfDispatcher.Chains.{does_append}
use Rattle.rv_hub.specs.Turns.{Offered, RunsTurns, all_effects, made_by}

-- ---- strides and turns

pub stride_does : (terms : DispatcherTerms) (s t : DispatcherState) (effect : Effect) (tells : List Effect)
    → IsStride terms s effect tells t → DoesAll terms s (effect ∷ tells) t
stride_does terms s t effect tells stride =
    (stride.between, stride.does, stride.told.does)

strides_do : (terms : DispatcherTerms) (s t : DispatcherState) (left : List ℕ) (strides :
    List (Effect × List Effect))
    → RunsStrides terms s left strides t
    → DoesAll terms s (effects_of strides) t
strides_do terms s t left [] same = same
strides_do terms s t left (stride ∷ strides) (mid, may, one, more) =
    does_append terms (stride.0 ∷ stride.1) (effects_of strides) s mid t
    (stride_does terms s mid stride.0 stride.1 one) (strides_do terms mid t _ strides more)

turn_does : (terms : DispatcherTerms) (s t : DispatcherState) (connection : ℕ) (piece : List ℕ) (effects :
    List Effect)
    (count : ℕ)
    → IsTurn terms s connection piece effects count t → DoesAll terms s effects t
turn_does terms s t connection piece effects count turn =
    subst (λ ds. DoesAll terms s ds t) (sym turn.effects_are) (strides_do terms s t piece turn.strides
    turn.runs)

chain_does : (terms : DispatcherTerms) (turns : List (List Effect)) (states : ℕ → DispatcherState)
    → ((place : ℕ) (effects : List Effect) → slice_get turns place ≡ Some effects
    → DoesAll terms (states place) effects (states (suc place)))
    → DoesAll terms (states 0) (all_effects turns) (states (length turns))
chain_does terms [] states each = refl
chain_does terms (effects ∷ turns) states each =
    does_append terms effects (all_effects turns) (states 0) (states 1) (states (length (effects ∷ turns)))
    (each 0 effects refl) (chain_does terms turns (λ i. states (suc i)) (λ place. each (suc place)))

pub turns_do : (terms : DispatcherTerms) (s t : DispatcherState) (offer : Offered) (row : List ℕ)
    (turns : List (List Effect)) (count : ℕ) → RunsTurns terms s offer row turns count t
    → DoesAll terms s (all_effects turns) t
turns_do terms s t offer row turns count runs =
    subst (λ (u : DispatcherState). DoesAll terms s (all_effects turns) u) runs.ends
    (subst (λ (u : DispatcherState). DoesAll terms u (all_effects turns) (runs.states (length turns)))
    runs.begins
    (chain_does terms turns runs.states
    (λ place effects at.
    let its = runs.each place effects at in
    turn_does terms (runs.states place) (runs.states (suc place)) its.connection _ effects _
    its.turn.turn)))

pub turns_made : (turns : List (List Effect)) → flat_map entries_of_effect (all_effects turns) ≡ made_by turns
turns_made [] = refl
turns_made (effects ∷ turns) =
    flat_map-append entries_of_effect effects (all_effects turns) ∙ ap (λ l. flat_map entries_of_effect
    effects ++ l)
    (turns_made turns)
