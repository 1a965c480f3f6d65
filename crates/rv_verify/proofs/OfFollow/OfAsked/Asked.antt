-- What is said of each place of a list, asked one by one.
use Rattle.std.proofs.Common.{◌≡◌, ◌+◌, ◌<◌, ◌≤◌, ◌∙◌, ℕ, true, false, List, length, get_or, Some, refl, sym}
use Rattle.std.proofs.Common.{ap}
use Rattle.std.proofs.Common.{arith, slice_get, IsTrue}
use Rattle.std.proofs.lemmas.Bool.{cases_lt, false≢true}
use Rattle.std.proofs.lemmas.Option.{get_or_from_slice_get, slice_get-get_or}
use Rattle.rv_account.proofs.OfRules.Places.{within}
use Rattle.rv_verify.specs.follow.state_rules.Walking.{HoldsBefore, HoldsOfAll}
use Rattle.rv_verify.proofs.OfFollow.OfAsked.DueNow.{Iff}

module _ (places : List ℕ) (n : ℕ) where
  read_at : (i p : ℕ) → i ≡ n → slice_get places i ≡ Some p → get_or places n 0 ≡ p
  read_at i p here at = get_or_from_slice_get places n p 0 (sym (ap (slice_get places) here) ∙ at)

  module _ (Holds : ℕ → Type 0) where
    pub all_next : Holds (get_or places n 0) → HoldsBefore Holds places n → HoldsBefore Holds places (n + 1)
    all_next = grind (arith, cases_lt, read_at)

    pub not_all : n < length places → (Holds (get_or places n 0) → ⊥)
        → Iff (IsTrue false) (HoldsOfAll Holds places)
    not_all inside none = (
      λ t. absurd (false≢true t),
      λ all. absurd (none (all (get_or places n 0) (n, slice_get-get_or places n 0 inside))),
    )

    pub all_told : length places ≤ n → HoldsBefore Holds places n
        → Iff (IsTrue true) (HoldsOfAll Holds places)
    all_told whole before = (
      λ t p at. let inside = within places at.0 p at.1 in before at.0 p (omega (arith, inside)) at.1,
      λ all. refl,
    )
