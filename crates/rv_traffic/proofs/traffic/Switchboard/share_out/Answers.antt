-- Shares are a run.
use Rattle.rv_traffic.proofs.CallsRun.{shared_run}
use Rattle.rv_traffic.proofs.traffic.Switchboard.share_out.Goals as goal

pub returns-clause-runs : goal.returns-clause-runs
returns-clause-runs g c = record {
  terms = c.share_out.ensures.terms;
  runs = shared_run _ _ c.args.room c.args.now _ _ c.share_out.ensures.shares;
}
