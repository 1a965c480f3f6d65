-- A round is a run.
use Rattle.rv_traffic.proofs.CallsRun.{read_rounds_run}
use Rattle.rv_traffic.proofs.traffic.Switchboard.read_round.Goals as goal

pub returns-clause-runs : goal.returns-clause-runs
returns-clause-runs g c = record {
  terms = c.read_round.ensures.terms;
  runs = read_rounds_run g.S.Read.remaining _ _ c.args.room c.args.now _ _ _ c.read_round.ensures.reads;
}
