-- One call after the other.
use Rattle.rv_traffic.proofs.CallsRun.{calls_join}
use Rattle.rv_host.proofs.shell.Shell.look_over.Goals as goal

pub returns-clause-runs : goal.returns-clause-runs
returns-clause-runs g c = calls_join _ _ _ c.watch.ensures c.look.ensures
