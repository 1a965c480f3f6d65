-- What a queue does with an arrival, by what it says to it.
use Rattle.std.specs.Prelude.{◌≡◌, ◌++◌, [], ◌∷◌, ℕ, Option, Some, None}
use Rattle.rv_session.specs.OwedDuty.{OwedDuty}
use Rattle.rv_dual.specs.declared.giver.Offer.{Offer}
use Rattle.rv_dual.specs.declared.giver.Offer.TheVariants.{Waits}
use Rattle.rv_dual.specs.declared.pair.DualOutcome.{DualOutcome}
use Rattle.rv_dual.specs.declared.pair.DualOutcome as told
use Rattle.rv_dual.specs.declared.pair.TryOutcome.{TryOutcome}
use Rattle.rv_dual.specs.declared.pair.TryOutcome as tried
use Rattle.rv_dual.specs.Offers.{Meeting, duty_of, place_of}
use Rattle.rv_dual.specs.Queue.{Queue}
use Rattle.rv_dual.specs.Room.{KeepsRoom, UsesRoom}

-- the offer met the first of the takers, which left
pub record MeetsTaker (old new : Queue) (offer : Offer) (pair : Meeting) : Type 0 where
  pub giver : pair.giver ≡ offer
  pub oldest : old.takers ≡ pair.taker ∷ new.takers
  pub givers : new.givers ≡ old.givers
  pub giver_room : new.giver_room ≡ old.giver_room
  pub taker_room : KeepsRoom old.taker_room new.taker_room

-- this item, the first, left
pub record FrontLeaves (old new : Queue) (front : Offer) : Type 0 where
  pub oldest : old.givers ≡ front ∷ new.givers
  pub takers : new.takers ≡ old.takers
  pub giver_room : KeepsRoom old.giver_room new.giver_room
  pub taker_room : new.taker_room ≡ old.taker_room

-- the taker met the first of the items, which left
pub record MeetsGiver (old new : Queue) (duty : OwedDuty) (pair : Meeting) : Type 0 where
  pub taker : pair.taker ≡ duty
  pub leaves : FrontLeaves old new pair.giver

-- the first of the items left, and what came out is the duty of its giver, if that waits, and its place
pub record TakesOut (old new : Queue) (duty : Option OwedDuty) (place : ℕ) : Type 0 where
  pub front : Offer
  pub leaves : FrontLeaves old new front
  pub duty_is : duty ≡ duty_of front
  pub place_is : place ≡ place_of front

-- no item was there, and nothing changed
pub record HasNoFront (old new : Queue) : Type 0 where
  pub nobody : old.givers ≡ []
  pub same : new ≡ old

-- no taker was there, and the offer is the last of the items, in the room of one
pub record ParksGiver (old new : Queue) (offer : Offer) : Type 0 where
  pub nobody : old.takers ≡ []
  pub givers : new.givers ≡ old.givers ++ offer ∷ []
  pub takers : new.takers ≡ old.takers
  pub giver_room : UsesRoom old.giver_room new.giver_room
  pub taker_room : new.taker_room ≡ old.taker_room

-- no item was there, and the duty is the last of the takers, in the room of one
pub record ParksTaker (old new : Queue) (duty : OwedDuty) : Type 0 where
  pub nobody : old.givers ≡ []
  pub takers : new.takers ≡ old.takers ++ duty ∷ []
  pub givers : new.givers ≡ old.givers
  pub giver_room : new.giver_room ≡ old.giver_room
  pub taker_room : UsesRoom old.taker_room new.taker_room

-- no taker was there, the duty came back, and nothing changed
pub record FindsNoTaker (old new : Queue) (duty returned : OwedDuty) : Type 0 where
  pub nobody : old.takers ≡ []
  pub back : returned ≡ duty
  pub same : new ≡ old

-- the same where no item was there
pub record FindsNoGiver (old new : Queue) (duty returned : OwedDuty) : Type 0 where
  pub nobody : old.givers ≡ []
  pub back : returned ≡ duty
  pub same : new ≡ old

abbrev pub GiveMeans : Queue → Queue → Offer → DualOutcome → Type 0
GiveMeans old new offer (told.TheVariants.Met pair) = MeetsTaker old new offer pair
GiveMeans old new offer told.TheVariants.Parked = ParksGiver old new offer

abbrev pub TakeMeans : Queue → Queue → OwedDuty → DualOutcome → Type 0
TakeMeans old new duty (told.TheVariants.Met pair) = MeetsGiver old new duty pair
TakeMeans old new duty told.TheVariants.Parked = ParksTaker old new duty

abbrev pub TriedGive : Queue → Queue → OwedDuty → TryOutcome → Type 0
TriedGive old new duty (tried.TheVariants.Met pair) = MeetsTaker old new (Waits duty) pair
TriedGive old new duty (tried.TheVariants.Alone returned) = FindsNoTaker old new duty returned

abbrev pub TriedTake : Queue → Queue → OwedDuty → TryOutcome → Type 0
TriedTake old new duty (tried.TheVariants.Met pair) = MeetsGiver old new duty pair
TriedTake old new duty (tried.TheVariants.Alone returned) = FindsNoGiver old new duty returned

abbrev pub TakenFront : Queue → Queue → Option (Option OwedDuty × ℕ) → Type 0
TakenFront old new (Some (duty, place)) = TakesOut old new duty place
TakenFront old new None = HasNoFront old new
