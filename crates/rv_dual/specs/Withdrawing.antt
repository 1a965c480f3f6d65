-- What it is to withdraw the request at a place.
use Rattle.std.specs.Prelude.{◌≡◌, ◌⊎◌, ℕ, List, Option, IfSome, IfNone, Contains, not}
use Rattle.std.specs.List.{filter}
use Rattle.rv_session.specs.OwedDuty.{OwedDuty}
use Rattle.rv_dual.specs.declared.giver.Offer.{Offer}
use Rattle.rv_dual.specs.declared.giver.Offer.TheVariants.{Waits}
use Rattle.rv_dual.specs.Offers.{is_at, waits_at}
use Rattle.rv_dual.specs.Queue.{KeepsRooms, Queue}

-- all but the request at the place, in their order; a put stays
abbrev pub without_giver : ℕ → List Offer → List Offer
without_giver place givers = filter (λ offer. not (waits_at place offer)) givers

abbrev pub without_taker : ℕ → List OwedDuty → List OwedDuty
without_taker place takers = filter (λ duty. not (is_at place duty)) takers

-- the duty of the request at the place waits with an item, or to take one
abbrev pub GivesAt : List Offer → ℕ → OwedDuty → Type 0
GivesAt givers place duty = Contains givers (Waits duty) × (duty.place ≡ place)

abbrev pub TakesAt : List OwedDuty → ℕ → OwedDuty → Type 0
TakesAt takers place duty = Contains takers duty × (duty.place ≡ place)

-- a duty is that of a request that waits in the queue at the place
abbrev pub WaitsAt : Queue → ℕ → OwedDuty → Type 0
WaitsAt q place duty = GivesAt q.givers place duty ⊎ TakesAt q.takers place duty

-- the result is the duty that waits at the place, if there is one; all others stay, in their order, and no
-- memory was taken or given back; where there is none, nothing changed
pub record Withdraws (old new : Queue) (place : ℕ) (result : Option OwedDuty) : Type 0 where
  pub some : IfSome result (WaitsAt old place)
  pub none : IfNone result ((duty : OwedDuty) → ¬ WaitsAt old place duty)
  pub same : IfNone result (new ≡ old)
  pub givers : new.givers ≡ without_giver place old.givers
  pub takers : new.takers ≡ without_taker place old.takers
  pub room : KeepsRooms old new
