-- What a giver brings to a queue, as contracts see it, and the pair of a giver and a taker.
use Rattle.std.specs.Prelude.{◌≡◌, ◌==◌, ◌<◌, ℕ, Bool, true, false, List, map, Option, Some, None}
use Rattle.std.proofs.Common.{arith}
use Rattle.std.proofs.lemmas.Bool.{false≢true}
use Rattle.std.proofs.lemmas.Bool.Decides.{nat_tests}
use Rattle.rv_session.specs.OwedDuty.{OwedDuty}
use Rattle.rv_dual.specs.declared.giver.Giver.{Giver}
use Rattle.rv_dual.specs.declared.giver.Giver as giver
use Rattle.rv_dual.specs.declared.giver.Offer.{Offer}
use Rattle.rv_dual.specs.declared.giver.Offer.TheVariants.{Put, Waits}

-- what a giver offers
abbrev pub offer_of : Giver → Offer
offer_of (giver.TheVariants.Put place) = Put place
offer_of (giver.TheVariants.Waits duty) = Waits duty

-- where the item arrived
abbrev pub place_of : Offer → ℕ
place_of (Put place) = place
place_of (Waits duty) = duty.place

-- where the items arrived, in their order
abbrev pub places_of : List Offer → List ℕ
places_of givers = map place_of givers

-- where the consumers arrived, in their order
abbrev pub takers_places : List OwedDuty → List ℕ
takers_places takers = map (λ (duty : OwedDuty). duty.place) takers

-- the duty of the request that waits with the item, if one does
abbrev pub duty_of : Offer → Option OwedDuty
duty_of (Put place) = None
duty_of (Waits duty) = Some duty

-- whether a duty is that of the request at a place
abbrev pub is_at : ℕ → OwedDuty → Bool
is_at place duty = duty.place == place

-- whether the request at a place waits with the item; a put doesn't wait
abbrev pub waits_at : ℕ → Offer → Bool
waits_at place (Put other) = false
waits_at place (Waits duty) = is_at place duty

-- a duty of the request at a place has that place
pub duty_at : (place : ℕ) (duty : OwedDuty) → is_at place duty ≡ true → duty.place ≡ place
duty_at place duty at = grind (arith, nat_tests)

-- and so has the item with which it waits
pub offer_at : (place : ℕ) (offer : Offer) → waits_at place offer ≡ true → place_of offer ≡ place
offer_at place (Put other) at = absurd (false≢true at)
offer_at place (Waits duty) at = duty_at place duty at

-- one item, or one taker, arrived before another
abbrev pub IsEarlier : Offer → Offer → Type 0
IsEarlier a b = place_of a < place_of b

abbrev pub IsEarlierTaker : OwedDuty → OwedDuty → Type 0
IsEarlierTaker a b = a.place < b.place

-- a giver and a taker that met: what the giver offered, and the taker's duty
pub record Meeting : Type 0 where
  pub giver : Offer
  pub taker : OwedDuty
