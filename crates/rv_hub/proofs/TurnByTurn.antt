-- Turns one after another: one more before them.
use Rattle.std.proofs.Common.{◌≡◌, ◌+◌, ◌∙◌, ◌++◌, ◌∷◌, ℕ, zero, suc, List, [], Some, length, take}
use Rattle.std.proofs.Common.{append_assoc, refl, sym, ap, subst}
use Rattle.std.specs.Prelude.{cond, nat_eq, slice_get}
use Rattle.std.proofs.lemmas.Grind.{flat_map-append}
use Rattle.std.proofs.lemmas.List.{length-append, length-take-le}
use Rattle.std.proofs.lemmas.Option.{none-some}
use Rattle.rv_hub.specs.dispatcher.View.{DispatcherState, DispatcherTerms}
use Rattle.rv_hub.specs.dispatcher.Effects.{Effect, bytes_by, bytes_in, told_in_effects, told_of_effect}
use Rattle.rv_hub.proofs.OfDispatcher.Chains.{left_append}
use Rattle.rv_hub.specs.Turns.{HasTurn, IsWholeTurn, Offered, RunsTurns, all_effects, offered_behind}
use Rattle.rv_hub.specs.Turns.{offered_to}
use Rattle.rv_hub.specs.Steps.{less_by}

pub no_turns : (terms : DispatcherTerms) (s t : DispatcherState) (offer : Offered) → t ≡ s
    → RunsTurns terms s offer [] [] 0 t
no_turns terms s t offer same = record {
  states = λ place. s;
  begins = refl;
  ends = sym same;
  each = λ place effects at. absurd (none-some effects at);
  all = refl;
  count_is = refl;
}

-- a state, and then those after it
abbrev state_first : DispatcherState → (ℕ → DispatcherState) → ℕ → DispatcherState
state_first s states zero = s
state_first s states (suc place) = states place

-- those that are to go on after one turn and further effects
row_behind : (connection : ℕ) (row : List ℕ) (effects more : List Effect)
    → (connection ∷ row) ++ told_in_effects (effects ++ more)
    ≡ connection ∷ ((row ++ told_in_effects effects) ++ told_in_effects more)
row_behind connection row effects more =
    ap (λ l. connection ∷ l) (ap (λ l. row ++ l) (flat_map-append told_of_effect effects more)
    ∙ sym (append_assoc row (told_in_effects effects) (told_in_effects more)))

-- and what is offered to them
offered_on : (offer : Offered) (effects more : List Effect) (connection : ℕ)
    → offered_behind (less_by offer (length (bytes_in effects))) more connection
    ≡ offered_behind offer (effects ++ more) connection
offered_on offer effects more connection =
    ap (λ l. cond (nat_eq offer.connection connection) l []) (sym (left_append offer.piece effects more))

turn_count : (terms : DispatcherTerms) (s t : DispatcherState) (connection : ℕ) (piece : List ℕ) (effects :
    List Effect)
    (count : ℕ) → IsWholeTurn terms s connection piece effects count t → length (bytes_in effects) ≡ count
turn_count terms s t connection piece effects count whole =
    ap length whole.turn.bytes ∙ length-take-le count piece whole.turn.within

-- ---- the turn at each place

module _ (terms : DispatcherTerms) (s : DispatcherState) (states : ℕ → DispatcherState) (offer : Offered)
    (connection : ℕ)
    (row : List ℕ) (effects : List Effect) (turns : List (List Effect))
    (whole : IsWholeTurn terms s connection (offered_to offer connection) effects (length (bytes_in effects))
    (states 0))
    (each : (place : ℕ) (its : List Effect) → slice_get turns place ≡ Some its
    → HasTurn terms states (less_by offer (length (bytes_in effects))) (row ++ told_in_effects effects)
    (all_effects (take place turns)) its place)
  where
    each_first : (place : ℕ) (its : List Effect) → slice_get (effects ∷ turns) place ≡ Some its
        → HasTurn terms (state_first s states) offer (connection ∷ row)
        (all_effects (take place (effects ∷ turns))) its place
    each_first zero its at =
        let same : effects ≡ its = (cc) in
        subst (λ ds. HasTurn terms (state_first s states) offer (connection ∷ row) [] ds 0) same
        (record { connection = connection; is_next = refl; turn = whole })
    each_first (suc place) its at =
        let it = each place its at in
        let before = all_effects (take place turns) in
        record {
          connection = it.connection;
          is_next = ap (λ l. slice_get l (suc place)) (row_behind connection row effects before) ∙ it.is_next;
          turn = subst (λ l. IsWholeTurn terms (states place) it.connection l its (length (bytes_in its))
              (states (suc place))) (offered_on offer effects before it.connection) it.turn;
        }

-- ---- one turn more

counted_first : (terms : DispatcherTerms) (s mid t : DispatcherState) (offer : Offered) (connection : ℕ)
    (row : List ℕ)
    (effects : List Effect) (turns : List (List Effect)) (rest : ℕ)
    → IsWholeTurn terms s connection (offered_to offer connection) effects (length (bytes_in effects)) mid
    → RunsTurns terms mid (less_by offer (length (bytes_in effects))) (row ++ told_in_effects effects) turns
    rest t
    → RunsTurns terms s offer (connection ∷ row) (effects ∷ turns) (length (bytes_in effects) + rest) t
counted_first terms s mid t offer connection row effects turns rest whole more = record {
  states = state_first s more.states;
  begins = refl;
  ends = more.ends;
  each = each_first terms s more.states offer connection row effects turns
      (subst (λ (u : DispatcherState). IsWholeTurn terms s connection (offered_to offer connection) effects
      (length (bytes_in effects)) u) (sym more.begins) whole) more.each;
  all = ap suc more.all ∙ sym (ap length (row_behind connection row effects (all_effects turns)));
  count_is = ap (λ n. length (bytes_in effects) + n) more.count_is
      ∙ sym (ap length (flat_map-append bytes_by effects (all_effects turns))
      ∙ length-append (bytes_in effects) (bytes_in (all_effects turns)));
}

pub turn_first : (terms : DispatcherTerms) (s mid t : DispatcherState) (offer : Offered) (connection : ℕ)
    (row : List ℕ)
    (effects : List Effect) (turns : List (List Effect)) (count rest : ℕ)
    → IsWholeTurn terms s connection (offered_to offer connection) effects count mid
    → RunsTurns terms mid (less_by offer count) (row ++ told_in_effects effects) turns rest t
    → RunsTurns terms s offer (connection ∷ row) (effects ∷ turns) (count + rest) t
turn_first terms s mid t offer connection row effects turns count rest whole more =
    let same : count ≡ length (bytes_in effects) = sym (turn_count terms s mid connection _ effects count
    whole)
    in
    subst (λ n. RunsTurns terms s offer (connection ∷ row) (effects ∷ turns) (n + rest) t) (sym same)
    (counted_first terms s mid t offer connection row effects turns rest
    (subst (λ n. IsWholeTurn terms s connection (offered_to offer connection) effects n mid) same whole)
    (subst (λ n. RunsTurns terms mid (less_by offer n) (row ++ told_in_effects effects) turns rest t) same
    more))
