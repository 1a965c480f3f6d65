-- One call after the other.
use Rattle.rv_traffic.proofs.CallsRun.{calls_join}
use Rattle.rv_host.proofs.look_over.LookOver.look_over_one.Goals as goal

pub returns : goal.returns
returns g c = calls_join _ _ _ c.catch_up.ensures.runs c.give_up.ensures.runs
