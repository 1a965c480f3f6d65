-- Which requests wait in a state, and which of those that waited before do so no longer.
use Rattle.std.specs.Prelude.{◌≡◌, ◌⊎◌, ◌<◌, ℕ, List, map, Some, IsSome, slice_get}
use Rattle.rv_text.specs.declared.message.Key.{Key}
use Rattle.rv_text.specs.declared.call.Call.{Call}
use Rattle.rv_session.specs.declared.client.LastRequest.TheVariants.{Waits}
use Rattle.rv_account.specs.state.After.{Settled}
use Rattle.rv_account.specs.state.Moves.{told_again}
use Rattle.rv_account.specs.state.State.{ClientState, State, client_at}

-- the request with this key waits in the state
pub record WaitsOn (s : State) (key : Key) : Type 0 where
  pub epoch : key.epoch ≡ s.epoch
  pub session : ClientState
  pub there : client_at s key.client ≡ Some session
  pub incarnation : session.incarnation ≡ key.incarnation
  pub last : session.last ≡ key.number
  pub place : ℕ
  pub call : Call
  pub waits : session.request ≡ Waits place call

-- it waits no longer: its session keeps its reply, or is one of a greater incarnation
pub record IsOver (s : State) (key : Key) : Type 0 where
  pub epoch : key.epoch ≡ s.epoch
  pub session : ClientState
  pub there : client_at s key.client ≡ Some session
  pub over : ((session.incarnation ≡ key.incarnation) × (session.last ≡ key.number)
      × IsSome (told_again session.request))
      ⊎ (key.incarnation < session.incarnation)

-- the key is one of those that are settled
abbrev pub IsListed : List Settled → Key → Type 0
IsListed settles key = (i : ℕ) × (slice_get (map (λ x. x.key) settles) i ≡ Some key)

-- of those that waited, exactly these wait no longer
pub record SettlesJust (s after : State) (settles : List Settled) : Type 0 where
  pub waits : (key : Key) → WaitsOn s key
      → WaitsOn after key ⊎ (IsOver after key × IsListed settles key)
  pub settled : (key : Key) → IsListed settles key → WaitsOn s key × IsOver after key
