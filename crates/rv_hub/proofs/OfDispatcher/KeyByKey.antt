-- Whoever waits is told key by key: what the tellings of each key add to those before it.
use Rattle.std.proofs.Common.{◌≡◌, ◌+◌, ◌<◌, ◌∙◌, ◌++◌, ◌∷◌, ℕ, suc, List, [], refl, sym, ap, subst}
use Rattle.std.proofs.Common.{append_assoc, arith, drop, drop-cons, length, get_or}
use Rattle.std.proofs.lemmas.List.{append-nil}
use Rattle.rv_text.specs.declared.message.Key.{Key}
use Rattle.rv_hub.specs.declared.dispatcher.Dispatcher.{Dispatcher}
use Rattle.rv_hub.specs.dispatcher.View.{DispatcherState, DispatcherTerms}
use Rattle.rv_hub.specs.dispatcher.Effects.{Effect}
use Rattle.rv_hub.specs.dispatcher.Order.{TellsEach, TellsKeys}
use Rattle.rv_hub.specs.dispatcher.Fields.{dispatcher_state, dispatcher_terms}
use Rattle.rv_hub.specs.dispatcher.Going.{GoesTelling, TellsClient, TellsIts, TellsThem}
use Rattle.rv_hub.proofs.OfDispatcher.Chains.{does_append}
use Rattle.rv_hub.proofs.OfDispatcher.Done.{client_done, each_still}
use Rattle.rv_hub.proofs.OfDispatcher.Rows.{row_keys, row_no_key}
use Rattle.rv_hub.proofs.OfDispatcher.Tellings.{goes_none, goes_on, same_terms}

each_append : (row others : List ℕ) (effects more : List Effect) → TellsEach row effects
    → TellsEach others more
    → TellsEach (row ++ others) (effects ++ more)
each_append [] others effects more none each = subst (λ ds. TellsEach others (ds ++ more)) (sym none) each
each_append (n ∷ row) others [] more none each = absurd none
each_append (n ∷ row) others (effect ∷ effects) more (one, rest) each =
    (one, each_append row others effects more rest each)

pub no_keys : (terms : DispatcherTerms) (s : DispatcherState) → TellsKeys terms s [] [] s
no_keys terms s = record { row = []; subscribers = row_no_key s.hears; each = refl; does = refl }

key_first : (terms : DispatcherTerms) (s mid t : DispatcherState) (key : Key) (keys : List Key) (first rest :
    List Effect)
    → TellsClient terms s key.client first mid → TellsKeys terms mid keys rest t
    → TellsKeys terms s (key ∷ keys) (first ++ rest) t
key_first terms s mid t key keys first rest one more =
    let done = client_done terms s mid key.client first one in
    record {
      row = one.row ++ more.row;
      subscribers = row_keys s.hears mid.hears key keys one.row more.row one.subscribers done.0 done.1
          (each_still terms s mid one.row first one.each one.does) more.subscribers;
      each = each_append one.row more.row first rest one.each more.each;
      does = does_append terms first rest s mid t one.does more.does;
    }

-- ---- so far

pub record TellsKeysSoFar (old : Dispatcher) (keys : List Key) (at : ℕ) (now : Dispatcher) : Type 0 where
  pub done : List Effect
  pub goes : GoesTelling old done now
  pub leads : (rest : List Effect) (final : DispatcherState)
      → TellsKeys (dispatcher_terms old) (dispatcher_state now) (drop at keys) rest final
      → TellsKeys (dispatcher_terms old) (dispatcher_state old) keys (done ++ rest) final

pub tells_no_key : (d : Dispatcher) (keys : List Key) → TellsKeysSoFar d keys 0 d
tells_no_key d keys = record { done = []; goes = goes_none d; leads = λ rest final tells. tells }

pub tells_next_key : (old now new : Dispatcher) (list keys : List Key) (at : ℕ) (d : Key) → list ≡ keys
    → at < length list
    → TellsKeysSoFar old keys at now → TellsIts now (get_or list at d).client new
    → TellsKeysSoFar old keys (at + 1) new
tells_next_key old now new list keys at d same within far its =
    let key = get_or list at d in
    let tells = subst (λ (terms : DispatcherTerms). TellsClient terms (dispatcher_state now) key.client
    its.effects
    (dispatcher_state new))
    (same_terms old now far.done far.goes) its.tells in
    let next : suc at ≡ at + 1 = omega arith in
    let parts : drop at keys ≡ key ∷ drop (at + 1) keys = ap (λ l. drop at l) (sym same)
    ∙ drop-cons list at d within ∙ ap (λ n. key ∷ drop n list) next ∙ ap (λ l. key ∷ drop (at + 1) l) same in
    record {
      done = far.done ++ its.effects;
      goes = goes_on old now new far.done its.effects far.goes its.goes;
      leads = λ rest final more.
          subst (λ l. TellsKeys (dispatcher_terms old) (dispatcher_state old) keys l final)
          (sym (append_assoc far.done its.effects rest))
          (far.leads (its.effects ++ rest) final
          (subst (λ ks. TellsKeys (dispatcher_terms old) (dispatcher_state now) ks (its.effects ++ rest)
          final) (sym parts)
          (key_first (dispatcher_terms old) (dispatcher_state now) (dispatcher_state new) final key
          (drop (at + 1) keys)
          its.effects
          rest tells more)));
    }

pub tells_keys : (old new : Dispatcher) (keys : List Key) (at : ℕ) → drop at keys ≡ []
    → TellsKeysSoFar old keys at new
    → TellsThem old keys new
tells_keys old new keys at none far = record {
  effects = far.done;
  tells = subst (λ l. TellsKeys (dispatcher_terms old) (dispatcher_state old) keys l (dispatcher_state new))
      (append-nil far.done)
      (far.leads [] (dispatcher_state new)
      (subst (λ ks. TellsKeys (dispatcher_terms old) (dispatcher_state new) ks [] (dispatcher_state new))
      (sym none)
      (no_keys (dispatcher_terms old) (dispatcher_state new))));
  goes = far.goes;
}
