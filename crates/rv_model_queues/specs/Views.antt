-- What contracts see of those that wait: the queues and the exchangers, and for each side the places on it.
use Rattle.std.specs.Prelude.{◌≡◌, ◌≢◌, ◌<◌, ℕ, List, [], ◌∷◌, Option, Some, None, unwrap_or, slice_get}
use Rattle.rv_text.specs.declared.call.Side.{Side}
use Rattle.rv_text.specs.declared.call.Side.TheVariants.{Gives, Takes, Looks, Exchanges}
use Rattle.rv_session.specs.OwedDuty.{OwedDuty}
use Rattle.rv_dual.specs.Offers.{places_of, takers_places}
use Rattle.rv_dual.specs.Queue.{Queue, SameLists}
use Rattle.rv_dual.specs.Room.{Room}

-- ---- queues

abbrev pub no_room : Room
no_room = record { spare = 0; capacity = 0 }

abbrev pub empty_queue : Queue
empty_queue = record { givers = []; takers = []; giver_room = no_room; taker_room = no_room }

-- the queue of this number; an empty one where there is no such queue
abbrev pub queue_at : List Queue → ℕ → Queue
queue_at queues queue = unwrap_or (slice_get queues queue) empty_queue

-- nobody waits in any queue
abbrev pub AllEmpty : List Queue → Type 0
AllEmpty queues = (queue : ℕ) → SameLists empty_queue (queue_at queues queue)

-- all that wait stay, in each queue
abbrev pub SameQueues : List Queue → List Queue → Type 0
SameQueues old new = (queue : ℕ) → SameLists (queue_at old queue) (queue_at new queue)

-- no other queue changed
abbrev pub OnlyQueue : ℕ → List Queue → List Queue → Type 0
OnlyQueue queue old new = (other : ℕ) → other ≢ queue → queue_at new other ≡ queue_at old other

-- ---- exchangers

-- the duty that waits at the exchanger of this number, if one does
abbrev pub exchanger_at : List (Option OwedDuty) → ℕ → Option OwedDuty
exchanger_at exchangers exchanger = unwrap_or (slice_get exchangers exchanger) None

-- the place where it arrived
abbrev pub place_of_duty : Option OwedDuty → List ℕ
place_of_duty None = []
place_of_duty (Some duty) = duty.place ∷ []

-- nobody waits at any exchanger
abbrev pub AllFree : List (Option OwedDuty) → Type 0
AllFree exchangers = (exchanger : ℕ) → exchanger_at exchangers exchanger ≡ None

-- all that wait stay, at each exchanger
abbrev pub SameExchangers : List (Option OwedDuty) → List (Option OwedDuty) → Type 0
SameExchangers old new = (exchanger : ℕ) → exchanger_at new exchanger ≡ exchanger_at old exchanger

-- no other exchanger changed
abbrev pub OnlyExchanger : ℕ → List (Option OwedDuty) → List (Option OwedDuty) → Type 0
OnlyExchanger exchanger old new =
    (other : ℕ) → other ≢ exchanger → exchanger_at new other ≡ exchanger_at old other

-- ---- both

-- where requests wait for each other: the queues, and the exchangers with the duty that waits at each
pub record WaitQueues : Type 0 where
  pub queues : List Queue
  pub exchangers : List (Option OwedDuty)

-- the places that wait on a side, the oldest first
abbrev pub waiting_on : WaitQueues → Side → List ℕ
waiting_on wait_queues (Gives queue) = places_of (queue_at wait_queues.queues queue).givers
waiting_on wait_queues (Takes queue) = takers_places (queue_at wait_queues.queues queue).takers
waiting_on wait_queues (Looks queue) = []
waiting_on wait_queues (Exchanges exchanger) = place_of_duty (exchanger_at wait_queues.exchangers exchanger)

-- all that wait stay
pub record SameWaitQueues (old new : WaitQueues) : Type 0 where
  pub queues : SameQueues old.queues new.queues
  pub exchangers : SameExchangers old.exchangers new.exchangers

-- nobody waits
pub record NobodyWaits (wait_queues : WaitQueues) : Type 0 where
  pub queues : AllEmpty wait_queues.queues
  pub exchangers : AllFree wait_queues.exchangers

-- all that wait do so at places below this one
abbrev pub AreBelow : WaitQueues → ℕ → Type 0
AreBelow wait_queues place =
    (side : Side) (i r : ℕ) → slice_get (waiting_on wait_queues side) i ≡ Some r → r < place
