-- What is decided of numbers: whether two are the same, and the least and the greatest number below a bound
-- with a property.
use Rattle.rv_account.proofs.OfRules.Words.{◌≡◌, ◌⊎◌, ◌<◌, inl, inr, ℕ, zero, suc, subst, arith}
use Rattle.rv_account.proofs.OfRules.Words.{cases_order, cases_lt}

pub same_or_not : (m n : ℕ) → (m ≡ n) ⊎ (m ≡ n → ⊥)
same_or_not m n = elim (cases_order m n) [
  | inl same ↦ inl same
  | inr differ ↦ inr (λ same. elim differ [ inl less ↦ omega arith | inr more ↦ omega arith ])
]

-- the least place below n with a property that is decided at each place, or that there is none
pub first_below : (P : ℕ → Type 0) → ((r : ℕ) → P r ⊎ (P r → ⊥)) → (n : ℕ)
    → ((r : ℕ) × (r < n) × P r × ((s : ℕ) → s < r → P s → ⊥)) ⊎ ((s : ℕ) → s < n → P s → ⊥)
first_below P decide zero = inr (λ s less holds. omega arith)
first_below P decide (suc n) = elim (first_below P decide n) [
  | inl found ↦ let less : found.0 < suc n = let below : found.0 < n = found.1 in omega arith in
      inl (found.0, less, found.2, found.3)
  | inr none ↦ elim (decide n) [
    | inl here ↦ inl (n, omega arith, here, none)
    | inr not_here ↦ inr (λ s less holds. elim (cases_lt s n) [
      | inl below ↦ none s below holds
      | inr above
          ↦ let is : s ≡ n = omega arith in not_here (subst P is holds)
    ])
  ]
]

-- the greatest such place
pub last_below : (P : ℕ → Type 0) → ((r : ℕ) → P r ⊎ (P r → ⊥)) → (n : ℕ)
    → ((r : ℕ) × (r < n) × P r × ((s : ℕ) → r < s → s < n → P s → ⊥)) ⊎ ((s : ℕ) → s < n → P s → ⊥)
last_below P decide zero = inr (λ s less holds. omega arith)
last_below P decide (suc n) = elim (decide n) [
  | inl here ↦ inl (n, omega arith, here, λ s more less holds. omega arith)
  | inr not_here ↦ elim (last_below P decide n) [
    | inl found ↦
        let less : found.0 < suc n = let below : found.0 < n = found.1 in omega arith in
        inl (
          found.0,
          less,
          found.2,
          λ s more below holds. elim (cases_lt s n) [
            | inl within ↦ found.3 s more
                within holds
            | inr above ↦ let is : s ≡ n = omega arith in not_here (subst P is holds)
          ],
        )
    | inr none ↦ inr (λ s less holds. elim (cases_lt s n) [
      | inl below ↦ none s below holds
      | inr above
          ↦ let is : s ≡ n = omega arith in not_here (subst P is holds)
    ])
  ]
]
