-- Clients that came back from their states: which of their duties can still be made.
use Rattle.std.specs.Prelude.{ℕ, Option, Some, None, cond, option_and_then, refl}
use Rattle.std.specs.Coded.{Coded, code_by, coded×, coded_option, coded_ℕ}
use Rattle.rv_session.specs.declared.client.ClientState.{ClientState}
use Rattle.rv_session.specs.Clients.{ClientStates, clients_code, place_awaited}
use Rattle.rv_session.specs.ClientOrder.{is_above}

-- a table whose duties are made in the order of their places, and the place of the last that was made, if one
-- was
pub record Claiming : Type 0 where
  pub table : ClientStates
  pub last : Option ℕ

-- it is stored as its fields
abbrev pub claiming_code : Coded ClientState → Coded Claiming
claiming_code code = code_by (ClientStates × Option ℕ) (coded× (clients_code code) (coded_option coded_ℕ))
    (λ c. (c.table, c.last)) (λ p. record { table = p.0; last = p.1 }) (λ _. refl)

-- the place, if it is above the last one
abbrev pub if_above : Option ℕ → ℕ → Option ℕ
if_above last place = cond (is_above last place) (Some place) None

-- where the last request of a client waits, if its duty can still be made
abbrev pub place_unclaimed : Claiming → ℕ → Option ℕ
place_unclaimed c client = option_and_then (if_above c.last) (place_awaited c.table.clients client)
