-- What an arrival does to those that wait, by its side and its wait.
use Rattle.std.specs.Prelude.{◌≡◌, ◌≢◌, ◌⊎◌, ◌<◌, ◌≤◌, ◌==◌, ℕ, [], ◌∷◌, ◌++◌, length, min}
use Rattle.std.specs.Prelude.{not, Option, Some, None, IsSome, option_and_then, slice_get}
use Rattle.std.specs.Global.{Vec}
use Rattle.std.specs.Vec.{vec_capacity}
use Rattle.std.specs.List.{filter}
use Rattle.rv_text.specs.declared.call.Call.{Call}
use Rattle.rv_text.specs.declared.call.Wait.{Wait}
use Rattle.rv_text.specs.declared.call.Side.{Side}
use Rattle.rv_text.specs.declared.call.Side.TheVariants.{Gives, Takes, Looks, Exchanges}
use Rattle.rv_session.specs.OwedDuty.{OwedDuty}
use Rattle.rv_dual.specs.Offers.{duty_of, place_of}
use Rattle.rv_dual.specs.Queue.{Queue, SameLists}
use Rattle.rv_dual.specs.Room.{GrowsRoom, Room}
use Rattle.rv_dual.specs.declared.giver.Offer.{Offer}
use Rattle.rv_dual.specs.declared.giver.Offer.TheVariants.{Put, Waits}
use Rattle.rv_swap.specs.Exchange.{LeavesExchanger, NotWaiting}
use Rattle.rv_model_queues.specs.declared.outcome.Arrived.{Arrived}
use Rattle.rv_model_queues.specs.Parked.{AreParked}
use Rattle.rv_text.specs.Calls.{side_of}
use Rattle.rv_account.specs.Calls.{Lasts, may_name, opposite}
use Rattle.rv_model_queues.specs.Views.{SameWaitQueues, WaitQueues, queue_at, waiting_on}

-- ---- one queue

-- the duty with which an item waits; a put has none
abbrev pub offer_by : Option Wait → OwedDuty → Offer
offer_by None duty = Put duty.place
offer_by (Some wait) duty = Waits duty

-- the duty that comes back to an arrival that waits: a put's, which is settled at once
abbrev pub own_by : Option Wait → OwedDuty → Option OwedDuty
own_by None duty = Some duty
own_by (Some wait) duty = None

-- neither side took memory or gave it back
pub record SameMemory (old new : Queue) : Type 0 where
  pub givers : new.giver_room.capacity ≡ old.giver_room.capacity
  pub takers : new.taker_room.capacity ≡ old.taker_room.capacity

-- it gave to the first of the consumers, which left
pub record GaveTo (old new : Queue) (duty : OwedDuty) (result : Arrived) : Type 0 where
  pub taker : OwedDuty
  pub oldest : old.takers ≡ taker ∷ new.takers
  pub givers : new.givers ≡ old.givers
  pub memory : SameMemory old new
  pub is : result ≡ record { partner = Some taker.place; own = Some duty; other = Some taker }

-- no consumer is there: its item waits after the others
pub record LaysDown (old new : Queue) (wait : Option Wait) (duty : OwedDuty) (result : Arrived) : Type 0 where
  pub nobody : old.takers ≡ []
  pub givers : new.givers ≡ old.givers ++ offer_by wait duty ∷ []
  pub takers : new.takers ≡ old.takers
  pub memory : SameMemory old new
  pub is : result ≡ record { partner = None; own = own_by wait duty; other = None }

-- no consumer is there, and it leaves nothing
pub record GaveNobody (old new : Queue) (duty : OwedDuty) (result : Arrived) : Type 0 where
  pub nobody : old.takers ≡ []
  pub same : SameLists old new
  pub memory : SameMemory old new
  pub is : result ≡ record { partner = None; own = Some duty; other = None }

-- it took the first of the items, which left
pub record TookFrom (old new : Queue) (duty : OwedDuty) (result : Arrived) : Type 0 where
  pub offer : Offer
  pub oldest : old.givers ≡ offer ∷ new.givers
  pub takers : new.takers ≡ old.takers
  pub memory : SameMemory old new
  pub is : result ≡ record { partner = Some (place_of offer); own = Some duty; other = duty_of offer }

-- no item is there: it waits after the other consumers
pub record StandsBy (old new : Queue) (duty : OwedDuty) (result : Arrived) : Type 0 where
  pub nobody : old.givers ≡ []
  pub takers : new.takers ≡ old.takers ++ duty ∷ []
  pub givers : new.givers ≡ old.givers
  pub memory : SameMemory old new
  pub is : result ≡ record { partner = None; own = None; other = None }

-- no item is there, and it goes
pub record TookNothing (old new : Queue) (duty : OwedDuty) (result : Arrived) : Type 0 where
  pub nobody : old.givers ≡ []
  pub same : SameLists old new
  pub memory : SameMemory old new
  pub is : result ≡ record { partner = None; own = Some duty; other = None }

-- a giver with this wait has room for its item, if it will stay there
abbrev pub HasRoomToGive : Queue → Option Wait → Type 0
HasRoomToGive q wait = Lasts wait → q.takers ≡ [] → 0 < q.giver_room.spare

-- and so has a taker, if it will wait
abbrev pub HasRoomToTake : Queue → Option Wait → Type 0
HasRoomToTake q wait = Lasts wait → q.givers ≡ [] → 0 < q.taker_room.spare

-- room was made for items alone, or for consumers alone
pub record GrowsGivers (old new : Queue) : Type 0 where
  pub same : SameLists old new
  pub own : GrowsRoom old.giver_room new.giver_room
  pub other : new.taker_room ≡ old.taker_room

pub record GrowsTakers (old new : Queue) : Type 0 where
  pub same : SameLists old new
  pub own : GrowsRoom old.taker_room new.taker_room
  pub other : new.giver_room ≡ old.giver_room

-- if nobody of the other side is there, by the wait: it stays, or it goes
abbrev pub ByWait : Option Wait → Type 0 → Type 0 → Type 0
ByWait wait stays goes = (Lasts wait × stays) ⊎ ((¬ Lasts wait) × goes)

abbrev pub Gave : Queue → Queue → Option Wait → OwedDuty → Arrived → Type 0
Gave old new wait duty result =
    GaveTo old new duty result
    ⊎ ByWait wait (LaysDown old new wait duty result) (GaveNobody old new duty result)

abbrev pub Took : Queue → Queue → Option Wait → OwedDuty → Arrived → Type 0
Took old new wait duty result =
    TookFrom old new duty result
    ⊎ ByWait wait (StandsBy old new duty result) (TookNothing old new duty result)

-- ---- one exchanger

-- it met the request that waited, which left
pub record SwappedWith (old new : Option OwedDuty) (duty : OwedDuty) (result : Arrived) : Type 0 where
  pub earlier : OwedDuty
  pub waited : old ≡ Some earlier
  pub left : new ≡ None
  pub is : result ≡ record { partner = Some earlier.place; own = Some duty; other = Some earlier }

-- nobody waits, and it waits from now on
pub record WaitsAlone (old new : Option OwedDuty) (duty : OwedDuty) (result : Arrived) : Type 0 where
  pub nobody : old ≡ None
  pub waits : new ≡ Some duty
  pub is : result ≡ record { partner = None; own = None; other = None }

-- nobody waits, and it goes
pub record SwappedNothing (old new : Option OwedDuty) (duty : OwedDuty) (result : Arrived) : Type 0 where
  pub nobody : old ≡ None
  pub none_waits : new ≡ None
  pub is : result ≡ record { partner = None; own = Some duty; other = None }

abbrev pub Exchanged : Option OwedDuty → Option OwedDuty → Wait → OwedDuty → Arrived → Type 0
Exchanged old new wait duty result =
    SwappedWith old new duty result
    ⊎ ByWait (Some wait) (WaitsAlone old new duty result) (SwappedNothing old new duty result)

-- the request that waits leaves, if it arrived at this place, and its duty comes back
abbrev pub LeftExchanger : Option OwedDuty → Option OwedDuty → ℕ → Option OwedDuty → Type 0
LeftExchanger old new place None = NotWaiting old place × (new ≡ old)
LeftExchanger old new place (Some duty) = LeavesExchanger old place new duty

-- ---- what an arrival does

-- such an arrival stays where nobody is there
abbrev pub StaysBy : Side → Option Wait → Type 0
StaysBy side wait = IsSome (opposite side) × Lasts wait

-- it met the first of the other side, which left
pub record MeetsFirst (old new : WaitQueues) (side : Side) (place : ℕ) : Type 0 where
  pub other : Side
  pub opposes : opposite side ≡ Some other
  pub first : waiting_on old other ≡ place ∷ waiting_on new other
  pub others : (third : Side) → third ≢ other → waiting_on new third ≡ waiting_on old third

-- nobody waits on the side that it meets
abbrev pub FindsNobody : WaitQueues → Side → Type 0
FindsNobody wait_queues side = (other : Side) → opposite side ≡ Some other → waiting_on wait_queues other ≡ []

-- it waits after all others of its side
pub record StartsToWait (old new : WaitQueues) (side : Side) (place : ℕ) : Type 0 where
  pub nobody : FindsNobody old side
  pub last : waiting_on new side ≡ waiting_on old side ++ place ∷ []
  pub others : (third : Side) → third ≢ side → waiting_on new third ≡ waiting_on old third

-- what became of all that wait, where the arrival at the place met this partner or nobody
abbrev pub MeetsOrWaits : WaitQueues → WaitQueues → Side → Option Wait → ℕ → Option ℕ → Type 0
MeetsOrWaits old new side wait place (Some partner) = MeetsFirst old new side partner
MeetsOrWaits old new side wait place None =
    (StaysBy side wait × StartsToWait old new side place)
    ⊎ ((¬ StaysBy side wait) × FindsNobody old side × SameWaitQueues old new)

-- its own duty comes back, unless it is a request that waits now
abbrev pub OwnDuty : Side → Option Wait → Option ℕ → OwedDuty → Option OwedDuty → Type 0
OwnDuty side wait partner duty None = (partner ≡ None) × StaysBy side wait × IsSome wait
OwnDuty side wait partner duty (Some own) =
    (own ≡ duty) × ((partner ≡ None) → StaysBy side wait → wait ≡ None)

-- how many requests start to wait with an arrival that gives back this own duty, and how many stop with one
-- that met the request of this duty
abbrev pub starts_waiting : Option OwedDuty → ℕ
starts_waiting None = 1
starts_waiting (Some own) = 0

abbrev pub ends_waiting : Option OwedDuty → ℕ
ends_waiting None = 0
ends_waiting (Some other) = 1

-- the partner's duty, if it is a request
abbrev pub PartnersDuty : (ℕ → Option OwedDuty) → Option ℕ → Option OwedDuty → Type 0
PartnersDuty owed None other = other ≡ None
PartnersDuty owed (Some partner) other = other ≡ owed partner

-- what the arrival of a request with this duty did; for any owed duties, if those parked before and this one
-- are owed, so are those parked after it
pub record ArrivedOn (old new : WaitQueues) (side : Side) (wait : Option Wait) (duty : OwedDuty)
    (result : Arrived) : Type 0 where
  pub meets : MeetsOrWaits old new side wait duty.place result.partner
  pub own : OwnDuty side wait result.partner duty result.own
  pub other : (owed : ℕ → Option OwedDuty) → AreParked owed old
      → PartnersDuty owed result.partner result.other
  pub parked : (owed : ℕ → Option OwedDuty) → AreParked owed old
      → (owed duty.place ≡ option_and_then (λ w. Some duty) wait) → AreParked owed new

-- ---- what is taken out

-- the request that waits on the side left it, and its duty came back
pub record LeavesSide (old new : WaitQueues) (side : Side) (duty : OwedDuty) (result : Option OwedDuty)
    : Type 0 where
  pub is : result ≡ Some duty
  pub places : waiting_on new side ≡ filter (λ r. not (r == duty.place)) (waiting_on old side)
  pub others : (third : Side) → third ≢ side → waiting_on new third ≡ waiting_on old third
  pub parked : (owed : ℕ → Option OwedDuty) → AreParked owed old → AreParked owed new

-- the first that waits on the side left it, and its duty came out, if it is a request; the duties of those
-- that stay are parked as they were
pub record LeavesFirst (old new : WaitQueues) (side : Side) (duty : Option OwedDuty) (place : ℕ) :
    Type 0 where
  pub first : waiting_on old side ≡ place ∷ waiting_on new side
  pub others : (third : Side) → third ≢ side → waiting_on new third ≡ waiting_on old third
  pub duty_is : (owed : ℕ → Option OwedDuty) → AreParked owed old → duty ≡ owed place
  pub parked : (owed : ℕ → Option OwedDuty) → AreParked owed old → AreParked owed new

-- the first that waits on the side, if any, left it; if none does, all that wait stay
abbrev pub LeftFront : WaitQueues → WaitQueues → Side → Option (Option OwedDuty × ℕ) → Type 0
LeftFront old new side (Some (duty, place)) = LeavesFirst old new side duty place
LeftFront old new side None = (waiting_on old side ≡ []) × SameWaitQueues old new

-- the same of the items that a side takes; no other side takes any
abbrev pub TakenFor : WaitQueues → WaitQueues → Side → Option (Option OwedDuty × ℕ) → Type 0
TakenFor old new (Takes queue) result = LeftFront old new (Gives queue) result
TakenFor old new (Gives queue) result = (result ≡ None) × (new ≡ old)
TakenFor old new (Looks queue) result = (result ≡ None) × (new ≡ old)
TakenFor old new (Exchanges exchanger) result = (result ≡ None) × (new ≡ old)

-- the place waits on the side, and on no other
pub record StandsOn (wait_queues : WaitQueues) (side : Side) (place : ℕ) : Type 0 where
  pub i : ℕ
  pub there : slice_get (waiting_on wait_queues side) i ≡ Some place
  pub only : (other : Side) (j : ℕ) → slice_get (waiting_on wait_queues other) j ≡ Some place → other ≡ side

-- the request whose duty is parked at the place, for any owed duties, left its side
abbrev pub Withdrew : WaitQueues → WaitQueues → Side → ℕ → Option OwedDuty → Type 0
Withdrew old new side place result = (owed : ℕ → Option OwedDuty) (duty : OwedDuty) → AreParked owed old
    → StandsOn old side place → owed place ≡ Some duty → LeavesSide old new side duty result

-- ---- room

-- the room of a side; what looks waits nowhere, and an exchanger has its own
abbrev pub room_on : WaitQueues → Side → Room
room_on wait_queues (Gives queue) = (queue_at wait_queues.queues queue).giver_room
room_on wait_queues (Takes queue) = (queue_at wait_queues.queues queue).taker_room
room_on wait_queues (Looks queue) = record { spare = 1; capacity = 1 }
room_on wait_queues (Exchanges exchanger) = record { spare = 1; capacity = 1 }

-- how many wait on the side that an arrival meets, if it meets any
abbrev pub opposed_by : WaitQueues → Option Side → ℕ
opposed_by wait_queues None = 0
opposed_by wait_queues (Some other) = length (waiting_on wait_queues other)

-- an arrival of the side with this wait lasts, and nobody is there that it meets
abbrev pub StaysAlone : WaitQueues → Side → Option Wait → Type 0
StaysAlone wait_queues side wait = Lasts wait × (opposed_by wait_queues (opposite side) ≡ 0)

-- an arrival of the side with this wait parks: it stays, and nobody is there that it meets
pub record ParksOn (wait_queues : WaitQueues) (side : Side) (wait : Option Wait) : Type 0 where
  pub stays : StaysBy side wait
  pub nobody : FindsNobody wait_queues side

-- an arrival that parks has room on its side
abbrev pub HasRoomOn : WaitQueues → Side → Option Wait → Type 0
HasRoomOn wait_queues side wait = ParksOn wait_queues side wait → 0 < (room_on wait_queues side).spare

-- it parks, and has no room: the one arrival for which a growth of a queue can be refused
abbrev pub LacksRoomOn : WaitQueues → Side → Option Wait → Type 0
LacksRoomOn wait_queues side wait = ParksOn wait_queues side wait × ((room_on wait_queues side).spare ≡ 0)

-- room was made on one side alone; what looks needs none
pub record MakesRoomOn (old new : WaitQueues) (side : Side) : Type 0 where
  pub same : SameWaitQueues old new
  pub own : GrowsRoom (room_on old side) (room_on new side)
  pub others : (third : Side) → third ≢ side → room_on new third ≡ room_on old third
  pub looks : opposite side ≡ None → new ≡ old

-- room was made for an arrival that parks, on its own side alone; for any other nothing changed
pub record MakesRoomFor (old new : WaitQueues) (side : Side) (wait : Option Wait) : Type 0 where
  pub same : SameWaitQueues old new
  pub own : GrowsRoom (room_on old side) (room_on new side)
  pub others : (third : Side) → third ≢ side → room_on new third ≡ room_on old third
  pub needless : ¬ ParksOn old side wait → new ≡ old

-- how many partners the call can meet
abbrev pub most_named : WaitQueues → Call → ℕ
most_named wait_queues call = min (may_name call) (opposed_by wait_queues (opposite (side_of call)))

-- it can meet some
abbrev pub NamesSome : WaitQueues → Call → Type 0
NamesSome wait_queues call = 0 < most_named wait_queues call

-- nothing is listed, and there is room for all partners that the call can meet
pub record HasRoomToName (wait_queues : WaitQueues) (call : Call) (places : Vec ℕ) : Type 0 where
  pub none : places.items ≡ []
  pub room : most_named wait_queues call ≤ vec_capacity places
