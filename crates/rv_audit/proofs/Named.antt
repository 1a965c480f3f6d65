-- What is said of the places of a list, told one by one.
use Rattle.std.proofs.lemmas.Grind.{common_steps}
use Rattle.rv_audit.proofs.Words.{◌≡◌, ◌+◌, ◌<◌, ◌≤◌, ◌∷◌, ◌∙◌, ℕ, true}
use Rattle.rv_audit.proofs.Words.{false, List, [], length, get_or, Some, refl, sym, ap}
use Rattle.rv_audit.proofs.Words.{arith, slice_get, IsTrue, cases_lt, false≢true, Among}
use Rattle.rv_audit.proofs.Words.{HasAmong, NoneBefore, is_any}
use Rattle.std.proofs.lemmas.Option.{get_or_from_slice_get, slice_get-get_or}
use Rattle.rv_account.proofs.OfRules.Places.{within}

module _ (places : List ℕ) (n : ℕ) where
  read_at : (i p : ℕ) → i ≡ n → slice_get places i ≡ Some p → get_or places n 0 ≡ p
  read_at i p here at = get_or_from_slice_get places n p 0 (sym (ap (slice_get places) here) ∙ at)

  module _ (Is : ℕ → Type 0) where
    -- none before a place of the list, and not it
    pub none_next : (Is (get_or places n 0) → ⊥) → NoneBefore Is places n → NoneBefore Is places (n + 1)
    none_next = grind (arith, cases_lt, read_at)

    -- it holds at the next place
    pub told_next : n < length places → Is (get_or places n 0)
        → (IsTrue true → HasAmong Is places) × (HasAmong Is places → IsTrue true)
    told_next within is = (
      λ t. (get_or places n 0, (n, slice_get-get_or places n 0 within), is),
      λ has. refl,
    )

    pub told_none : length places ≤ n → NoneBefore Is places n
        → (IsTrue false → HasAmong Is places) × (HasAmong Is places → IsTrue false)
    told_none whole none = (
      λ t. absurd (false≢true t),
      λ has. let inside : has.1.0 < length places = within places has.1.0 has.0 has.1.1 in
          absurd (none has.1.0 has.0 (omega arith) has.1.1 has.2),
    )

pub some_among : (places : List ℕ) → is_any places ≡ true → (p : ℕ) × Among places p
some_among [] any = absurd (false≢true any)
some_among (p ∷ rest) any = (p, (0, refl))

pub any_among : (places : List ℕ) (p : ℕ) → Among places p → is_any places ≡ true
any_among = grind (arith, common_steps)
