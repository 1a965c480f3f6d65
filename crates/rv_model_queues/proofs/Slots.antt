-- A list by numbers, with a value where it has none: after one was set, and what an index gives.
use Rattle.rv_model_queues.proofs.Words.{◌≡◌, ◌<◌, ◌∙◌, ℕ, List, length, sym, ap, subst}
use Rattle.rv_model_queues.proofs.Words.{slice_get, slice_get-get_or}
use Rattle.std.specs.Prelude.{slice_set, unwrap_or}
use Rattle.std.proofs.Math.ListN.{get_or}
use Rattle.std.proofs.lemmas.List.{get_or-set_same, get_or-set_other}
use Rattle.std.proofs.lemmas.Option.{unwrap_or-slice_get}

module _ {X : Type 0} (xs : List X) (n : ℕ) (x d : X) where
  pub set_here : n < length xs → unwrap_or (slice_get (slice_set xs n x) n) d ≡ x
  set_here inside = unwrap_or-slice_get (slice_set xs n x) n d ∙ get_or-set_same xs n x d inside

  pub set_elsewhere : (other : ℕ) → (other ≡ n → ⊥)
      → unwrap_or (slice_get (slice_set xs n x) other) d ≡ unwrap_or (slice_get xs other) d
  set_elsewhere other apart = unwrap_or-slice_get (slice_set xs n x) other d ∙ get_or-set_other xs n other x d
      apart ∙ sym (unwrap_or-slice_get xs other d)

  pub indexed : (e : X) → n < length xs → x ≡ get_or xs n e → unwrap_or (slice_get xs n) d ≡ x
  indexed e inside is = ap (λ o. unwrap_or o d) (slice_get-get_or xs n e inside) ∙ sym is

-- a list that is seen as another that equals it, where what an index gave at a number is changed
module _ {X : Type 0} (xs seen : List X) (n : ℕ) (d old new : X) (is : xs ≡ seen) (inside : n < length xs)
    (value : old ≡ get_or xs n old) where
  pub given : unwrap_or (slice_get seen n) d ≡ old
  given = subst (λ (l : List X). unwrap_or (slice_get l n) d ≡ old) is (indexed xs n old d old inside value)

  pub changed : (P : X → X → Type 0) → P old new
      → P (unwrap_or (slice_get seen n) d) (unwrap_or (slice_get (slice_set xs n new) n) d)
  changed P so = subst (λ (x : X). P x (unwrap_or (slice_get (slice_set xs n new) n) d)) (sym given)
      (subst (λ (x : X). P old x) (sym (set_here xs n new d inside)) so)

  pub only_changed : (other : ℕ) → (other ≡ n → ⊥)
      → unwrap_or (slice_get (slice_set xs n new) other) d ≡ unwrap_or (slice_get seen other) d
  only_changed other apart = subst
      (λ (l : List X). unwrap_or (slice_get (slice_set xs n new) other) d ≡ unwrap_or (slice_get l other) d)
      is
      (set_elsewhere xs n new d other apart)
