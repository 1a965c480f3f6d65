-- What the parts of an event leave in a dispatcher.
use Rattle.std.specs.Prelude.{ℕ, ◌≡◌, ◌<◌, ◌≤◌, ◌⊎◌, List, [], ◌++◌, None, Option, Some, Contains}
use Rattle.std.specs.Prelude.{drop, length}
use Rattle.rv_hub.specs.declared.dispatcher.Dispatcher.{Dispatcher}
use Rattle.rv_hub.specs.dispatcher.View.{DispatcherState}
use Rattle.rv_hub.specs.dispatcher.Fields.{dispatcher_state, dispatcher_terms}
use Rattle.rv_hub.specs.dispatcher.Effects.{Effect, DoesAll}
use Rattle.rv_hub.specs.dispatcher.Rest.{HasComeToStop, TakesNoMore}
use Rattle.rv_hub.specs.declared.events.HubEvent.{HubEvent}
use Rattle.rv_hub.specs.declared.events.HubEvent.TheVariants as event
use Rattle.rv_hub.specs.Turns.{EventGoesOn, Offered, RunsTurns, made_by, own_effects}

-- the piece came of this connection
abbrev pub offer_from : ℕ → List ℕ → Offered
offer_from source piece = record { connection = source; piece = piece }

-- what is left of an offer after so many bytes were taken
abbrev pub less_by : Offered → ℕ → Offered
less_by offer count = record offer { piece = drop count offer.piece }

-- each connection has stopped, or is to go on
abbrev pub IsGoing : DispatcherState → List ℕ → Type 0
IsGoing s row = (connection : ℕ) → HasComeToStop s connection ⊎ Contains row connection

-- if bytes of a piece are left, its connection takes no more of them, or is to go on
abbrev pub IsOffering : DispatcherState → List ℕ → Offered → Type 0
IsOffering s row offer = 0 < length offer.piece
    → TakesNoMore s offer.connection ⊎ Contains row offer.connection

-- connections went on, first these and then those that were freed, until none was to go on
pub record TurnsOn (old : Dispatcher) (first : List ℕ) (offer : Offered) (count : ℕ) (new : Dispatcher) :
    Type 0 where
  pub turns : List (List Effect)
  pub runs : RunsTurns (dispatcher_terms old) (dispatcher_state old) offer (first ++ old.freed.items) turns
      count
      (dispatcher_state new)
  pub made : new.entries.items ≡ old.entries.items ++ made_by turns
  pub terms : dispatcher_terms new ≡ dispatcher_terms old
  pub none_freed : new.freed.items ≡ []
  pub within : count ≤ length offer.piece
  pub stopped : (connection : ℕ) → HasComeToStop (dispatcher_state new) connection
  pub takes_no_more : count < length offer.piece → TakesNoMore (dispatcher_state new) offer.connection

-- the number of a connection that the event opens
abbrev pub opened_number : HubEvent → ℕ → Option ℕ
opened_number event.Opened number = Some number
opened_number what number = None

-- an event's own effect was done
pub record ActsOwn (old : Dispatcher) (what : HubEvent) (opened : Option ℕ) (new : Dispatcher) : Type 0 where
  pub number : ℕ
  pub opened_is : opened ≡ opened_number what number
  pub does : DoesAll (dispatcher_terms old) (dispatcher_state old) (own_effects what number)
      (dispatcher_state new)

-- time went on, and then connections did
pub record RunsOn (old : Dispatcher) (handed : ℕ) (what : HubEvent) (offer : Offered) (taken : ℕ)
    (new : Dispatcher) : Type 0
  where
    pub goes : EventGoesOn (dispatcher_terms old) (dispatcher_state old) handed what new.entries.items taken
        (dispatcher_state new)
    pub terms : dispatcher_terms new ≡ dispatcher_terms old
    pub none_freed : new.freed.items ≡ []
    pub within : taken ≤ length offer.piece
    pub stopped : (connection : ℕ) → HasComeToStop (dispatcher_state new) connection
    pub takes_no_more : taken < length offer.piece → TakesNoMore (dispatcher_state new) offer.connection
