-- The law, which Effects proves.
use Rattle.rv_store.proofs.OfServers.OfCrashes.Effects.{begins}
use Rattle.rv_store.proofs.servers.crashes.laws.servers_begin.Goals as goal

pub returns : goal.returns
returns c = begins
