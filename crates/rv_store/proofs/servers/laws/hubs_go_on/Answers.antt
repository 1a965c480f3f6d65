-- The laws, which Going proves.
use Rattle.rv_store.proofs.OfServers.Going.{hubs_begin, hubs_go_on}
use Rattle.rv_store.proofs.servers.laws.hubs_go_on.Goals as goal

pub returns-clause-begins : goal.returns-clause-begins
returns-clause-begins c = hubs_begin c.servers_begin.ensures

pub returns-clause-goes_on : goal.returns-clause-goes_on
returns-clause-goes_on c = hubs_go_on c.effects_keep_servers.ensures
