-- One call after the other.
use Rattle.rv_traffic.proofs.CallsRun.{calls_join}
use Rattle.rv_host.proofs.Turning.{calls_to}
use Rattle.rv_host.proofs.shell.Shell.send_all.Goals as goal

pub returns-clause-runs : goal.returns-clause-runs
returns-clause-runs g c =
    calls_to _ _ _ c.show_status.ensures.traffic
    (calls_join _ _ _ c.write_round-broken.ensures.runs c.look_over.ensures.runs)
