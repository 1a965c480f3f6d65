-- From which open places the tables can be rebuilt, one place after the other.
use Rattle.std.specs.Prelude.{◌≡◌, ◌≢◌, ◌<◌, ◌≤◌, ℕ, List, [], Option, Some, None, IsSome, length, option_map}
use Rattle.std.specs.Prelude.{slice_get, true}
use Rattle.std.specs.FinMap.{FinMap}
use Rattle.std.specs.Ordering.{nat_cmp}
use Rattle.rv_text.specs.declared.call.Side.TheVariants.{Gives}
use Rattle.rv_text.specs.Limits.{FitsSide}
use Rattle.rv_session.specs.OwedDuty.{OwedDuty}
use Rattle.rv_session.specs.declared.client.ClientState.{ClientState}
use Rattle.rv_session.specs.Claims.{Claiming, place_unclaimed}
use Rattle.rv_session.specs.ClientOrder.{is_above}
use Rattle.rv_session.specs.Clients.{place_awaited}
use Rattle.rv_account.specs.Calls.{opposite}
use Rattle.rv_account.specs.state.State.{OpenPlace, Waiter}
use Rattle.rv_machine.specs.open_places.OpenMap.{PlacesRise, StandBelow, most_counted, opposed_in}

-- the duty to settle the last request of a client that waits, if one does
abbrev pub duty_of_waiter : FinMap nat_cmp ClientState → Option Waiter → Option OwedDuty
duty_of_waiter clients None = None
duty_of_waiter clients (Some w) =
    option_map (λ place. record { place = place; client = w.key.client })
    (place_awaited clients w.key.client)

-- an item lies at the place, in a queue
abbrev pub LiesInQueue : OpenPlace → Type 0
LiesInQueue one = (queue : ℕ) × (one.side ≡ Gives queue)

-- what an open place is by itself: arrivals of its side stay, and a client awaits it, or an item lies there,
-- which has no limit
pub record StandsOpen (one : OpenPlace) (clients : FinMap nat_cmp ClientState) : Type 0 where
  pub fits : FitsSide one.side
  pub stays : IsSome (opposite one.side)
  pub limited : IsSome one.limit → IsSome one.waiter
  pub awaited : (w : Waiter) → one.waiter ≡ Some w
      → place_awaited clients w.key.client ≡ Some one.place
  pub lies : one.waiter ≡ None → LiesInQueue one

-- few places rise, each stands open by itself, and no two could have met
pub record MayResume (all : List OpenPlace) (clients : FinMap nat_cmp ClientState) : Type 0 where
  pub few : length all ≤ most_counted
  pub rise : PlacesRise all
  pub stand : (i : ℕ) (one : OpenPlace) → slice_get all i ≡ Some one → StandsOpen one clients
  pub apart : (i j : ℕ) (one other : OpenPlace) → slice_get all i ≡ Some one → slice_get all j ≡ Some other
      → one.place ≢ other.place → opposite one.side ≢ Some other.side

-- one may be open after all others: it stands open by itself, above them, and could have met none; and its
-- duty can still be made
pub record MayReopen (all : List OpenPlace) (one : OpenPlace) (claims : Claiming) : Type 0 where
  pub few : length all < most_counted
  pub stands : StandsOpen one claims.table.clients
  pub below : StandBelow all one.place
  pub alone : opposed_in all one.side ≡ []
  pub unclaimed : is_above claims.last one.place ≡ true

-- the duty of the request that waits, if one does, can still be made
abbrev pub CanBeClaimed : Claiming → Option Waiter → Type 0
CanBeClaimed claims None = Unit {0}
CanBeClaimed claims (Some w) =
    place_unclaimed claims w.key.client ≡ place_awaited claims.table.clients w.key.client

-- whatever is above the place and the last one before is above the last one after
abbrev pub ClaimsUpTo : Option ℕ → ℕ → Option ℕ → Type 0
ClaimsUpTo before place after = (other : ℕ) → place < other → is_above before other ≡ true
    → is_above after other ≡ true
