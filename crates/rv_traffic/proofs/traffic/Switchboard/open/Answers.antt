-- An event, or its refusal, is a run.
use Rattle.rv_traffic.proofs.CallsRun.{events_run, refusals_run}
use Rattle.rv_traffic.proofs.traffic.Switchboard.open.Goals as goal

pub returns-in-Ok-clause-runs : goal.returns-in-Ok-clause-runs
returns-in-Ok-clause-runs g c = record {
  terms = record { terms = c.tell.ensures.terms; journal = c.tell.ensures.journal };
  runs = events_run _ _ _ _ c.args.now _ _ _ c.in-Ok.ensures.takes;
}

pub returns-in-Err-clause-runs : goal.returns-in-Err-clause-runs
returns-in-Err-clause-runs g c = record {
  terms = record { terms = c.tell.ensures.terms; journal = c.tell.ensures.journal };
  runs = refusals_run _ _ _ _ _ _ c.in-Err.ensures.refused;
}
