-- The laws, which Room proves.
use Rattle.rv_store.proofs.OfServers.Room.{effects_keep_room, events_keep_room, fronts_go_on}
use Rattle.rv_store.proofs.servers.laws.accounts_go_on.Goals as goal

pub returns-clause-effects : goal.returns-clause-effects
returns-clause-effects c = effects_keep_room

pub returns-clause-events : goal.returns-clause-events
returns-clause-events c = events_keep_room

pub returns-clause-fronts : goal.returns-clause-fronts
returns-clause-fronts c = fronts_go_on
