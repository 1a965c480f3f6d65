-- A dual queue: a list of items or a list of consumers, the oldest first.
use Rattle.std.specs.Prelude.{◌≡◌, ◌<◌, ◌⊎◌, ℕ, List, []}
use Rattle.std.specs.List.{All, AllPairs}
use Rattle.rv_session.specs.OwedDuty.{OwedDuty}
use Rattle.rv_dual.specs.declared.giver.Offer.{Offer}
use Rattle.rv_dual.specs.Offers.{place_of, IsEarlier, IsEarlierTaker}
use Rattle.rv_dual.specs.Room.{Room, GrowsRoom, KeepsRoom}

-- the items and the consumers that wait, and the room of each side
pub record Queue : Type 0 where
  pub givers : List Offer
  pub takers : List OwedDuty
  pub giver_room : Room
  pub taker_room : Room

-- one side alone waits, and in the order of arrival
pub record IsDual (givers : List Offer) (takers : List OwedDuty) : Type 0 where
  pub one_side : (givers ≡ []) ⊎ (takers ≡ [])
  pub givers_rise : AllPairs IsEarlier givers
  pub takers_rise : AllPairs IsEarlierTaker takers

abbrev pub IsQueue : Queue → Type 0
IsQueue q = IsDual q.givers q.takers

-- a place is above those of all that wait
pub record IsAbove (q : Queue) (place : ℕ) : Type 0 where
  pub givers : All (λ offer. place_of offer < place) q.givers
  pub takers : All (λ duty. duty.place < place) q.takers

-- all that wait stay
pub record SameLists (old new : Queue) : Type 0 where
  pub givers : new.givers ≡ old.givers
  pub takers : new.takers ≡ old.takers

-- neither side took memory or gave it back
pub record KeepsRooms (old new : Queue) : Type 0 where
  pub givers : KeepsRoom old.giver_room new.giver_room
  pub takers : KeepsRoom old.taker_room new.taker_room

-- either side may have taken memory for more, and gave none back
pub record GrowRooms (old new : Queue) : Type 0 where
  pub givers : GrowsRoom old.giver_room new.giver_room
  pub takers : GrowsRoom old.taker_room new.taker_room

-- one more of either side can wait
pub record HasRooms (q : Queue) : Type 0 where
  pub givers : 0 < q.giver_room.spare
  pub takers : 0 < q.taker_room.spare
