-- One call after another.
use Rattle.rv_traffic.proofs.CallsRun.{calls_join}
use Rattle.rv_host.proofs.shell.Shell.take_all.Goals as goal

pub returns-clause-runs : goal.returns-clause-runs
returns-clause-runs g c =
    calls_join _ c.read_round-faults.new.self _ (calls_join _ c.accept.new.traffic _
    (calls_join _ c.elapse.new.traffic _
    (calls_join _ c.heed.new.traffic _ c.heed.ensures c.elapse.ensures)
    c.accept.ensures) c.read_round-faults.ensures.runs) c.share_out.ensures.runs
