-- What contracts see of a dispatcher.
use Rattle.std.specs.Prelude.{ℕ, ◌≡◌, List, [], max, min}
use Rattle.rv_account.specs.rules.Steps.{max_moment}
use Rattle.rv_account.specs.rules.StepLimits.{StepLimits}
use Rattle.rv_account.specs.state.State.{State}
use Rattle.rv_server_connections.specs.Connections.{ChangesWire, ListsOne, WiresState}
use Rattle.rv_server_connections.specs.connection.Traffic.{Traffic}
use Rattle.rv_server_connections.specs.subscribers.Subscription.{WhoHears}

pub record DispatcherState : Type 0 where
  -- the state of the account
  pub book : State
  -- the greatest moment so far
  pub now : ℕ
  -- the open connections, and how many entries are written
  pub open_wires : WiresState
  -- the connections that changed since this list was last cleared
  pub changed : List ℕ
  -- the request that each connection waits for, if it waits
  pub hears : WhoHears

-- what doesn't change: the limits of each step, and for how long a request waits before it is told so
pub record DispatcherTerms : Type 0 where
  pub limits : StepLimits
  pub patience : ℕ

-- an open connection's bytes changed so, it is among those that changed, and nothing else did
pub record ChangesBytes (old : DispatcherState) (connection : ℕ) (so : Traffic → Traffic → Type 0)
    (new : DispatcherState) :
    Type 0
  where
    pub changes : ChangesWire old.open_wires connection so new.open_wires
    pub lists : ListsOne old.changed connection new.changed
    pub rest : new ≡ record old { open_wires = new.open_wires; changed = new.changed }

-- a moment that is handed in, at most 2^62, or the greatest so far if that is later
abbrev pub moment_now : ℕ → ℕ → ℕ
moment_now now handed = max now (min handed max_moment)

-- the same, where no connection changed yet
abbrev pub begun : DispatcherState → DispatcherState
begun s = record s { changed = [] }
