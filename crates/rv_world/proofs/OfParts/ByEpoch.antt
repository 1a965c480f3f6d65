-- The account of an epoch is the present one, or one of those before it.
use Rattle.rv_world.proofs.OfParts.Words.{◌≢◌, ◌∷◌, ◌∙◌, ℕ, [], inl, inr, ap, Contains-append_left}
use Rattle.rv_world.proofs.OfParts.Words.{Contains-push_cases, Account, World, IsAccountOf}
use Rattle.rv_world.specs.parts.Parts.{IsBookOf}
use Rattle.rv_world.proofs.OfParts.Listing.{place_of, stands_at}

pub earlier_of : (w : World) (epoch i : ℕ) (is : IsBookOf w.earlier epoch i) → IsAccountOf w epoch is.account
earlier_of w epoch i is = record {
  is_there = Contains-append_left w.earlier (w.present ∷ []) is.account (stands_at w.earlier i is.account
      is.there);
  epoch_is = is.epoch_is;
}

pub none_of : (w : World) (epoch : ℕ) → ((i : ℕ) → ¬ IsBookOf w.earlier epoch i) → w.present.epoch ≢ epoch
    → (a : Account) → ¬ IsAccountOf w epoch a
none_of w epoch nowhere other a is = elim (Contains-push_cases w.earlier w.present a is.is_there) [
  | inl before ↦
      let at = place_of w.earlier a before in
      nowhere at.0 (record { account = a; there = at.1; epoch_is = is.epoch_is })
  | inr last ↦ other (ap (λ (b : Account). b.epoch) last ∙ is.epoch_is)
]
