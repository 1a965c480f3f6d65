-- What is read off a state to know whether the state after an entry has room.
use Rattle.std.specs.Prelude.{◌≡◌, ◌≤◌, ◌+◌, ℕ, Some, None, IsSome}
use Rattle.rv_session.specs.Clients.{place_waiting}
use Rattle.rv_account.specs.state.State.{ClientState, OpenPlace, State, client_at, open_at, waiting_count}
use Rattle.rv_text.specs.Members.{max_identifier}

-- the client's last request waits at some place
pub record HasAwaiting (s : State) (client : ℕ) : Type 0 where
  pub session : ClientState
  pub known : client_at s client ≡ Some session
  pub waits : IsSome (place_waiting session.request)

-- it waits nowhere
abbrev pub AwaitsNothing : State → ℕ → Type 0
AwaitsNothing s client = (session : ClientState) → client_at s client ≡ Some session
    → place_waiting session.request ≡ None

-- a request waits at the open place with this number
pub record IsWaitedFor (s : State) (place : ℕ) : Type 0 where
  pub there : OpenPlace
  pub found : open_at s place ≡ Some there
  pub waits : IsSome there.waiter

-- no request waits at it
abbrev pub IsUnawaited : State → ℕ → Type 0
IsUnawaited s place = (there : OpenPlace) → open_at s place ≡ Some there → there.waiter ≡ None

-- there is space for so many more entries, besides those that may come to be needed for what waits
abbrev pub HasSpace : State → ℕ → Type 0
HasSpace s need = s.length + waiting_count s + need ≤ max_identifier
