-- Whose duties are parked: how those that wait stand to the duties that are owed.
use Rattle.std.specs.Prelude.{◌≡◌, ℕ, Option, Some, slice_get}
use Rattle.rv_session.specs.OwedDuty.{OwedDuty}
use Rattle.rv_dual.specs.Offers.{duty_of, place_of}
use Rattle.rv_dual.specs.Queue.{Queue}
use Rattle.rv_dual.specs.declared.giver.Offer.{Offer}
use Rattle.rv_model_queues.specs.Views.{WaitQueues, exchanger_at, queue_at}

-- Below, `owed` gives for each place the duty to settle what arrived there, if one is owed; a put needs none.
-- What is said here is said of any such function.

-- the duties that are parked in a queue are those that are owed at their places
pub record IsParked (owed : ℕ → Option OwedDuty) (q : Queue) : Type 0 where
  pub givers : (i : ℕ) (offer : Offer) → slice_get q.givers i ≡ Some offer
      → owed (place_of offer) ≡ duty_of offer
  pub takers : (i : ℕ) (duty : OwedDuty) → slice_get q.takers i ≡ Some duty → owed duty.place ≡ Some duty

-- and so in each queue and at each exchanger
pub record AreParked (owed : ℕ → Option OwedDuty) (wait_queues : WaitQueues) : Type 0 where
  pub queues : (queue : ℕ) → IsParked owed (queue_at wait_queues.queues queue)
  pub exchangers : (exchanger : ℕ) (duty : OwedDuty)
      → exchanger_at wait_queues.exchangers exchanger ≡ Some duty
      → owed duty.place ≡ Some duty
