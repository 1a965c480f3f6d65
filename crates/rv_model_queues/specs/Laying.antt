-- How a place that was open before is laid in again: after all others of its side, with its duty.
use Rattle.std.specs.Prelude.{◌≡◌, ℕ, Option, Some, None}
use Rattle.rv_text.specs.declared.call.Side.{Side}
use Rattle.rv_text.specs.declared.call.Side.TheVariants.{Gives, Takes, Looks, Exchanges}
use Rattle.rv_session.specs.OwedDuty.{OwedDuty}
use Rattle.rv_dual.specs.declared.giver.Offer.{Offer}
use Rattle.rv_dual.specs.declared.giver.Offer.TheVariants.{Put, Waits}
use Rattle.rv_model_queues.specs.Meeting.{StartsToWait}
use Rattle.rv_model_queues.specs.Parked.{AreParked}
use Rattle.rv_model_queues.specs.Views.{WaitQueues}

-- what waits on the side at the place may have this duty: a request that of its place, a put's item none;
-- what looks never waits
abbrev pub MayWaitBy : Side → ℕ → Option OwedDuty → Type 0
MayWaitBy (Gives queue) place None = Unit {0}
MayWaitBy (Gives queue) place (Some duty) = duty.place ≡ place
MayWaitBy (Takes queue) place None = ⊥
MayWaitBy (Takes queue) place (Some duty) = duty.place ≡ place
MayWaitBy (Looks queue) place duty = ⊥
MayWaitBy (Exchanges exchanger) place None = ⊥
MayWaitBy (Exchanges exchanger) place (Some duty) = duty.place ≡ place

-- the item that lies at the place, with the duty of the request that waits with it, if one does
abbrev pub offer_with : ℕ → Option OwedDuty → Offer
offer_with place None = Put place
offer_with place (Some duty) = Waits duty

-- one more waits on the side, after all others there, with its duty, if it has one; for any owed duties, if
-- those parked before and this one are owed, so are those parked after it
pub record LaidOn (old new : WaitQueues) (side : Side) (place : ℕ) (duty : Option OwedDuty) : Type 0 where
  pub waits : StartsToWait old new side place
  pub parked : (owed : ℕ → Option OwedDuty) → AreParked owed old → owed place ≡ duty → AreParked owed new
