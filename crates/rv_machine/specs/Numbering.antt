-- How the numbers of a state's sessions stand.
use Rattle.std.specs.Prelude.{◌≡◌, ℕ, Some}
use Rattle.rv_session.specs.declared.client.LastRequest.TheVariants.{Fresh}
use Rattle.rv_account.specs.state.State.{ClientState, State, client_at}

-- the last number of a session is 0 exactly where it asked nothing yet
pub record IsNumbered (session : ClientState) : Type 0 where
  pub unasked : session.last ≡ 0 → session.request ≡ Fresh
  pub zero : session.request ≡ Fresh → session.last ≡ 0

-- and that holds of each client's session
abbrev pub AreNumbered : State → Type 0
AreNumbered s = (client : ℕ) (session : ClientState) → client_at s client ≡ Some session → IsNumbered session
