-- One call after the other.
use Rattle.rv_traffic.proofs.CallsRun.{calls_join}
use Rattle.rv_host.proofs.reception.Reception.accept_one.Goals as goal

pub returns : goal.returns
returns c = calls_join _ _ _ c.may_accept.ensures c.take_in.ensures
