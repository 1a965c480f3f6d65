-- How many places have a property after one entry more, which adds no more than its own place.
use Rattle.rv_account.proofs.OfRules.Words.{◌≡◌, ◌⊎◌, ◌+◌, ◌<◌, ◌≤◌, inl, inr, ℕ, subst, arith, NumberOf}
use Rattle.rv_account.proofs.OfRules.Counting.{number_at_most, number_drop, number_push}

module _ (P Q : ℕ → Type 0) (l n m : ℕ) (before : NumberOf P n) (after : NumberOf Q m)
    (below : (r : ℕ) → P r → r < l) (back : (r : ℕ) → Q r → P r ⊎ (r ≡ l)) where
  -- one more at most
  pub one_more : m ≤ n + 1
  one_more =
      let Either = λ (r : ℕ). P r ⊎ (r ≡ l) in
      let count : NumberOf Either (n + 1) =
      number_push P Either n l before below (λ r. ((λ h. h), (λ h. h))) in
      number_at_most Q Either m (n + 1) back after count

  was_before : (Q l → ⊥) → (r : ℕ) → Q r → P r
  was_before not_last r holds = elim (back r holds) [
    | inl was ↦ was
    | inr last ↦ absurd (not_last (subst Q last holds))
  ]

  -- no more, where its own place hasn't the property
  pub no_more : (Q l → ⊥) → m ≤ n
  no_more not_last = number_at_most Q P m n (was_before not_last) after before

  -- fewer, where besides a place has it no longer
  pub one_less : (Q l → ⊥) → (r : ℕ) → P r → (Q r → ⊥) → m + 1 ≤ n
  one_less not_last r here gone =
      let Others = λ (s : ℕ). P s × (s ≡ r → ⊥) in
      let rest = number_drop P Others n r before here (λ s. ((λ h. h), (λ h. h))) in
      let most : m ≤ rest.0 = number_at_most Q Others m rest.0
      (λ s holds. (was_before not_last s holds, (λ is. gone (subst Q is holds)))) after rest.2 in
      let is : n ≡ rest.0 + 1 = rest.1 in
      omega arith
