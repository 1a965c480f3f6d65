-- What it is to enter an entry that meets no partner: the space for it, and the clients that may enter.
use Rattle.std.specs.Prelude.{◌≡◌, ◌+◌, ◌<◌, ◌≤◌, ℕ, Some, None, IsSome}
use Rattle.std.specs.FinMap.{len}
use Rattle.rv_text.specs.declared.call.Call.{Call}
use Rattle.rv_text.specs.declared.message.Key.{Key}
use Rattle.rv_session.specs.declared.client.LastRequest.TheVariants.{Waits}
use Rattle.rv_session.specs.ClientMeanings.{AsksLast}
use Rattle.rv_session.specs.Clients.{place_waiting}
use Rattle.rv_account.specs.rules.StepLimits.{StepLimits}
use Rattle.rv_account.specs.state.Follows.{IsNewIncarnation}
use Rattle.rv_account.specs.state.State.{ClientState, State, client_at}
use Rattle.rv_machine.specs.declared.tables.Holdings.{Holdings}
use Rattle.rv_machine.specs.Machines.{state_in}
use Rattle.rv_machine.specs.open_places.OpenMap.{count_waiting}

-- so many more entries can be made, besides those that end what waits
abbrev pub HasSpaceFor : StepLimits → Holdings → ℕ → Type 0
HasSpaceFor limits m need = m.length + count_waiting m.table + need ≤ limits.entries

-- no request of the client waits
abbrev pub WaitsForNothing : State → ℕ → Type 0
WaitsForNothing s client = (session : ClientState) → client_at s client ≡ Some session
    → place_waiting session.request ≡ None

-- the client is known, and no request of its waits
pub record CanReopen (m : Holdings) (client : ℕ) : Type 0 where
  pub known : IsSome (client_at (state_in m) client)
  pub idle : WaitsForNothing (state_in m) client

-- the incarnation is a new one of the client, which is known, or fewer are known than there can be
pub record IsNewHello (limits : StepLimits) (s : State) (client incarnation : ℕ) : Type 0 where
  pub is_new : IsNewIncarnation s client incarnation
  pub most : client_at s client ≡ None → len s.clients < limits.clients

-- the key has its session's last number, whose request waits at this place
pub record LastWaits (m : Holdings) (key : Key) (place : ℕ) : Type 0 where
  pub call : Call
  pub asks : AsksLast m.clients key (Waits place call)
