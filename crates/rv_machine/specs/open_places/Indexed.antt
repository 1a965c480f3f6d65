-- How the tables of what is open agree with it: those that wait on each side, how many wait, and when their
-- waits end.
use Rattle.std.specs.Prelude.{◌≡◌, ◌<◌, ◌∷◌, ◌++◌, [], ℕ, List, Option, Some, None, IsSome, option_map}
use Rattle.std.specs.Prelude.{slice_get}
use Rattle.rv_text.specs.declared.message.Key.{Key}
use Rattle.rv_text.specs.declared.call.Call.{Call}
use Rattle.rv_text.specs.declared.call.Side.{Side}
use Rattle.rv_text.specs.declared.call.Wait.{Wait}
use Rattle.rv_text.specs.Calls.{side_of, wait_of}
use Rattle.rv_session.specs.declared.client.LastRequest.TheVariants.{Waits}
use Rattle.rv_session.specs.Clients.{ClientStates, clients_asked, with_clients}
use Rattle.rv_model_queues.specs.Meeting.{StaysBy}
use Rattle.rv_text.specs.Limits.{FitsSide}
use Rattle.rv_session.specs.OwedDuty.{OwedDuty}
use Rattle.rv_due.specs.Deadlines.{Deadlines}
use Rattle.rv_account.specs.state.State.{OpenPlace, place_list}
use Rattle.rv_model_queues.specs.Parked.{AreParked}
use Rattle.rv_model_queues.specs.Views.{WaitQueues, waiting_on}
use Rattle.rv_machine.specs.open_places.OpenMap.{PlacesRise, due_in, duty_at, facing, found_at, deadlines_in}
use Rattle.rv_machine.specs.open_places.OpenMap.{line_in, StandBelow, most_counted, opposed_in, owed_among}
use Rattle.rv_machine.specs.open_places.OpenMap.{count_waiting, all_but}

-- the places rise, each is of a side that exists, and what has a limit waits; the tables have exactly these
pub record AreIndexed (all : List OpenPlace) (wait_queues : WaitQueues) (waiting : ℕ) (due : Deadlines) :
    Type 0
  where
    pub rise : PlacesRise all
    pub fit : (i : ℕ) (one : OpenPlace) → slice_get all i ≡ Some one → FitsSide one.side
    pub limited : (i : ℕ) (one : OpenPlace) → slice_get all i ≡ Some one → IsSome one.limit
        → IsSome one.waiter
    pub lines : (side : Side) → waiting_on wait_queues side ≡ place_list (line_in all side)
    pub parked : AreParked (owed_among all) wait_queues
    pub counted : waiting ≡ count_waiting all
    pub limits : due ≡ deadlines_in all

-- a request waits at the place
pub record WaitsIn (all : List OpenPlace) (place : ℕ) : Type 0 where
  pub there : OpenPlace
  pub found : found_at all place ≡ Some there
  pub waits : IsSome there.waiter

-- what stood at a place is closed: it comes out, with the duty to settle the request that waited there, and
-- all else stays
pub record ClosesPlace (old new : List OpenPlace) (place : ℕ) (there : OpenPlace) (duty : Option OwedDuty) :
    Type 0
  where
    pub found : found_at old place ≡ Some there
    pub owed : duty_at there ≡ duty
    pub rest : new ≡ all_but old place

-- the first that is due at a moment is closed, of all that are due there, by limit and then place
pub record ClosesDue (old new : List OpenPlace) (moment : ℕ) (there : OpenPlace) (duty : OwedDuty) : Type 0
  where
    pub closes : ClosesPlace old new there.place there (Some duty)
    pub first : due_in old moment ≡ there ∷ due_in new moment

-- the first of a line is closed
pub record ClosesFirst (old new : List OpenPlace) (line : Option Side) (there : OpenPlace)
    (duty : Option OwedDuty) : Type 0 where
  pub closes : ClosesPlace old new there.place there duty
  pub first : facing old line ≡ there ∷ facing new line

-- ---- an arrival that stays

-- the duty that comes back to an arrival that stays: a put's own, since it waits for nobody
abbrev pub own_duty : Option Wait → OwedDuty → Option OwedDuty
own_duty None duty = Some duty
own_duty (Some wait) duty = None

-- an arrival of this key with this call stays at an open place: nobody faces it, and all stand below it
pub record MayPark (all : List OpenPlace) (opened : OpenPlace) (key : Key) (call : Call) : Type 0 where
  pub side : opened.side ≡ side_of call
  pub fits : FitsSide (side_of call)
  pub stays : StaysBy (side_of call) (wait_of call)
  pub alone : opposed_in all (side_of call) ≡ []
  pub below : StandBelow all opened.place
  pub waiter : duty_at opened
      ≡ option_map (λ w. record { place = opened.place; client = key.client }) (wait_of call)
  pub limited : IsSome opened.limit → IsSome opened.waiter
  pub few : count_waiting all < most_counted

-- it stays from now on: its request is its client's last, and waits unless it is a put's
pub record ParksPlace (old new : List OpenPlace) (was now : ClientStates) (opened : OpenPlace) (key : Key)
    (call : Call) (own : Option OwedDuty) : Type 0 where
  pub opens : new ≡ old ++ opened ∷ []
  pub begins : now ≡ with_clients was (clients_asked was.clients key (Waits opened.place call))
  pub own_is : own ≡ own_duty (wait_of call) (record { place = opened.place; client = key.client })
