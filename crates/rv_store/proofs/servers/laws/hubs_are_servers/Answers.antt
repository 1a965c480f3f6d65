-- The laws, effect by effect.
use Rattle.rv_store.proofs.OfServers.Lacking.{lacks_memory}
use Rattle.rv_store.proofs.OfServers.Serving.{events_serve}
use Rattle.rv_store.proofs.servers.laws.hubs_are_servers.Goals as goal

pub returns-clause-events : goal.returns-clause-events
returns-clause-events c = events_serve c.effects_keep_servers.ensures

pub returns-clause-lacks : goal.returns-clause-lacks
returns-clause-lacks c = lacks_memory c.effects_keep_servers.ensures
