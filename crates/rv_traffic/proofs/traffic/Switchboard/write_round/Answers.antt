-- A round is a run.
use Rattle.rv_traffic.proofs.CallsRun.{write_rounds_run}
use Rattle.rv_traffic.proofs.traffic.Switchboard.write_round.Goals as goal

pub returns-clause-runs : goal.returns-clause-runs
returns-clause-runs g c = record {
  terms = c.write_round.ensures.terms;
  runs = write_rounds_run g.S.Write.contents _ _ c.args.now _ _ _ c.write_round.ensures.writes;
}
