-- The world that a state is.
use Rattle.std.specs.Prelude.{◌≡◌, ℕ, List, Option, Some, None, slice_get}
use Rattle.std.specs.List.{filter_map}
use Rattle.rv_text.specs.declared.message.Message.{Message}
use Rattle.rv_text.specs.declared.message.Message.TheVariants as message
use Rattle.rv_account.specs.Account.{Account}
use Rattle.rv_world.specs.declared.parts.state.WorldState.{WorldState}
use Rattle.rv_world.specs.parts.World.{World}
use Rattle.rv_world.specs.parts.Sound.{AllFits, IsSoundWorld}
use Rattle.rv_world.specs.parts.Table.{AreNewest}

-- the client and incarnation of a hello: each start sends one, and nothing else does
abbrev pub hello_in : Message → Option (ℕ × ℕ)
hello_in (message.Hello client incarnation version) = Some (client, incarnation)
hello_in (message.Request key call) = None
hello_in (message.Cancel key) = None

abbrev pub started_by : List Message → List (ℕ × ℕ)
started_by messages = filter_map hello_in messages

abbrev pub world_of : WorldState → World
world_of state = record {
  earlier = state.earlier.items;
  present = state.present;
  started = started_by state.to_server.items;
  clients = state.clients.processes;
  asked = state.asked.items;
  held = state.held.items;
  to_server = state.to_server.items;
  to_client = state.to_client.items;
}

-- the account at i has this epoch
pub record IsBookOf (books : List Account) (epoch i : ℕ) : Type 0 where
  pub account : Account
  pub there : slice_get books i ≡ Some account
  pub epoch_is : account.epoch ≡ epoch

-- the table knows its clients' greatest incarnations
abbrev pub KnowsNewest : WorldState → Type 0
KnowsNewest state = AreNewest state.clients.newest (started_by state.to_server.items)

-- the world is sound and keeps its limits, and its table is true
pub record IsSoundState (state : WorldState) : Type 0 where
  pub sound : IsSoundWorld (world_of state)
  pub fits : AllFits (world_of state)
  pub newest : KnowsNewest state
