-- The law, by what Effects has of an answer that may be sent.
use Rattle.rv_store.proofs.OfServers.OfCrashes.Effects.{may_go}
use Rattle.rv_store.proofs.servers.crashes.laws.sent_is_stored.Goals as goal

pub returns : goal.returns
returns c = λ messages s packet server may. (may.0, may_go messages s packet may.0 server may.1 may.2)
