-- A queue in which one more is parked, with the duty that is owed at its place.
use Rattle.rv_model_queues.proofs.Words.{◌≡◌, ◌∷◌, ◌++◌, ◌∙◌, inl, inr, ℕ, [], Option, Some, sym, ap, subst}
use Rattle.rv_model_queues.proofs.Words.{slice_get}
use Rattle.rv_model_queues.proofs.Words.{OwedDuty, place_of, Queue, IsParked}
use Rattle.rv_dual.specs.Offers.{duty_of}
use Rattle.rv_dual.specs.declared.giver.Offer.{Offer}
use Rattle.rv_model_queues.proofs.Lists.{pushed_cases}

module _ (owed : ℕ → Option OwedDuty) (before after : Queue) where
  pub pushed_giver : (offer : Offer) → owed (place_of offer) ≡ duty_of offer
      → after.givers ≡ before.givers ++ offer ∷ [] → after.takers ≡ before.takers → IsParked owed before
      → IsParked owed after
  pushed_giver offer is_owed givers takers was = record {
    givers = λ i other at. elim (pushed_cases before.givers offer other i
        (sym (ap (λ l. slice_get l i) givers) ∙ at)) [
          | inl inside ↦ was.givers i other inside
          | inr last ↦ subst (λ (o : Offer). owed (place_of o) ≡ duty_of o) last is_owed
        ];
    takers = λ i other at. was.takers i other (sym (ap (λ l. slice_get l i) takers) ∙ at);
  }

  pub pushed_taker : (duty : OwedDuty) → owed duty.place ≡ Some duty
      → after.takers ≡ before.takers ++ duty ∷ [] → after.givers ≡ before.givers → IsParked owed before
      → IsParked owed after
  pushed_taker duty is_owed takers givers was = record {
    givers = λ i offer at. was.givers i offer (sym (ap (λ l. slice_get l i) givers) ∙ at);
    takers = λ i other at. elim (pushed_cases before.takers duty other i
        (sym (ap (λ l. slice_get l i) takers) ∙ at)) [
          | inl inside ↦ was.takers i other inside
          | inr last ↦ subst (λ (d : OwedDuty). owed d.place ≡ Some d) last is_owed
        ];
  }
