-- What the fields of a dispatcher hold.
use Rattle.std.specs.Prelude.{ℕ, ◌≡◌, ◌<◌, ◌≤◌, [], Some, vec_capacity}
use Rattle.rv_account.specs.rules.Steps.{max_moment}
use Rattle.rv_account.specs.rules.StepLimits.{AreStepLimits}
use Rattle.rv_account.specs.state.After.{due_at}
use Rattle.rv_machine.specs.Machines.{state_in}
use Rattle.rv_machine.specs.declared.machine.Machine.{Machine}
use Rattle.rv_account.specs.state.resume.Resuming.{CanResume}
use Rattle.rv_server_connections.specs.declared.subscribers.tables.Subscription.{Subscription}
use Rattle.rv_server_connections.specs.subscribers.Subscribers.{subscribers_of}
use Rattle.rv_server_connections.specs.Wires.{tally_in, wires_in}
use Rattle.rv_hub.specs.declared.dispatcher.Dispatcher.{Dispatcher}
use Rattle.rv_hub.specs.dispatcher.View.{DispatcherState, DispatcherTerms}
use Rattle.rv_hub.specs.dispatcher.Telling.{IsTellable}
use Rattle.rv_hub.specs.dispatcher.Rest.{SubscribersInTime, SubscribersOwe, SubscribersWait, OwersHear}

abbrev pub dispatcher_state : Dispatcher → DispatcherState
dispatcher_state d = record {
  book = state_in d.machine;
  now = d.latest;
  open_wires = wires_in d.wires;
  changed = (tally_in d.wires).changed;
  hears = subscribers_of d.subscribers;
}

abbrev pub dispatcher_terms : Dispatcher → DispatcherTerms
dispatcher_terms d = record { limits = d.limits; patience = d.patience }

-- what holds of the machine and the moment
pub record IsBook (m : Machine) (now : ℕ) : Type 0 where
  pub resumes : CanResume (state_in m)
  pub later : (state_in m).moment ≤ now
  pub time : now ≤ max_moment

-- what always holds: each connection that waits can be told
pub record IsDispatcherSound (d : Dispatcher) : Type 0 where
  pub book : IsBook d.machine d.latest
  pub patient : 0 < d.patience
  pub limits : AreStepLimits (dispatcher_terms d).limits
  pub subscribers_owe : SubscribersOwe (dispatcher_state d)
  pub owers_hear : OwersHear (dispatcher_state d)
  pub tellable : (connection : ℕ) (subscription : Subscription)
      → subscribers_of d.subscribers connection ≡ Some subscription
      → IsTellable (state_in d.machine) subscription.key

-- between events: each connection that waits does so for a request that waits, and there is room for a tick's
-- entry
pub record IsDispatcherReady (d : Dispatcher) : Type 0 where
  pub sound : IsDispatcherSound d
  pub waits : SubscribersWait (dispatcher_state d)
  pub room : 1 ≤ vec_capacity d.entries
  pub none_freed : d.freed.items ≡ []

-- within an event, after its time: nothing is due, and nobody has waited as long as it may
pub record IsSteady (d : Dispatcher) : Type 0 where
  pub sound : IsDispatcherSound d
  pub waits : SubscribersWait (dispatcher_state d)
  pub room : 1 ≤ vec_capacity d.entries
  pub none_due : due_at (state_in d.machine) d.latest ≡ []
  pub in_time : SubscribersInTime (dispatcher_state d)
