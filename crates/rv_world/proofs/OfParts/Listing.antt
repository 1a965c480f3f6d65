-- Lists: where an element stands, and keys that stand but once.
use Rattle.rv_world.proofs.OfParts.Words.{◌≡◌, ◌∷◌, ◌++◌, ◌∙◌, inl, inr, ℕ, List, [], Some, sym, ap, subst}
use Rattle.rv_world.proofs.OfParts.Words.{Contains, slice_get, Contains-append_left, none-some, Key}
use Rattle.rv_world.proofs.OfParts.Words.{get-append_cases, HasEachKeyOnce}
use Rattle.std.proofs.lemmas.Option.{get_or_from_slice_get, slice_get-get_or}
use Rattle.rv_account.proofs.OfRules.Places.{within}
use Rattle.rv_world.specs.parts.Headline.{GoesOn}

pub place_of : {X : Type 0} (xs : List X) (x : X) → Contains xs x → (i : ℕ) × (slice_get xs i ≡ Some x)
place_of xs x there = (there.0, slice_get-get_or xs there.0 x there.1 ∙ ap Some there.2)

pub stands_at : {X : Type 0} (xs : List X) (i : ℕ) (x : X) → slice_get xs i ≡ Some x → Contains xs x
stands_at xs i x there = (i, within xs i x there, get_or_from_slice_get xs i x x there)

pub still_contains : {X : Type 0} (xs ys : List X) (x : X) → GoesOn xs ys → Contains xs x → Contains ys x
still_contains xs ys x grows there = subst (λ list. Contains list x) (sym grows.is) (Contains-append_left xs
    grows.more x there)

-- ---- keys of their own

pub once_none : {X : Type 0} → HasEachKeyOnce {X = X} []
once_none i j key one other there also = absurd (none-some (key, one) there)

-- a new key after keys that each occur once
pub once_push : {X : Type 0} (list : List (Key × X)) (new : Key) (value : X) → HasEachKeyOnce list
    → ((other : X) → Contains list (new, other) → ⊥) → HasEachKeyOnce (list ++ (new, value) ∷ [])
once_push list new value once fresh i j key one other there also = elim (get-append_cases list (new, value)
    (key, one) i there) [
      | inl first ↦ elim (get-append_cases list (new, value) (key, other) j also) [
        | inl second ↦ once i j key one other first.1 second.1
        | inr last ↦ absurd (fresh one (subst (λ k. Contains list (k, one)) (sym (ap (λ p. p.0) last.1))
            (stands_at list i (key, one) first.1)))
      ]
      | inr first ↦ elim (get-append_cases list (new, value) (key, other) j also) [
        | inl second ↦ absurd (fresh other (subst (λ k. Contains list (k, other))
            (sym (ap (λ p. p.0) first.1))
            (stands_at list j (key, other) second.1)))
        | inr last ↦ first.0 ∙ sym last.0
      ]
    ]
