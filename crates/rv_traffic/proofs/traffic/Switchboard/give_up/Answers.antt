-- A connection that is given up is a run.
use Rattle.rv_traffic.proofs.CallsRun.{gone_run}
use Rattle.rv_traffic.proofs.traffic.Switchboard.give_up.Goals as goal

pub returns-clause-runs : goal.returns-clause-runs
returns-clause-runs g c = record {
  terms = c.give_up.ensures.terms;
  runs = gone_run _ _ _ _ c.args.now c.args.number c.give_up.ensures.gives_up.told;
}
