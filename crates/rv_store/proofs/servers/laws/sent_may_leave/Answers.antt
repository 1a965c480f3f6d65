-- The law, by a connection's past.
use Rattle.rv_store.proofs.OfServers.Leaving.{sent_may_leave}
use Rattle.rv_store.proofs.servers.laws.sent_may_leave.Goals as goal

pub returns : goal.returns
returns c = sent_may_leave
