-- A socket that is put under a number leaves the engine.
use Rattle.rv_traffic.proofs.CallsRun.{attach_run}
use Rattle.rv_traffic.proofs.traffic.Switchboard.attach.Goals as goal

pub returns-clause-runs : goal.returns-clause-runs
returns-clause-runs g c = record {
  terms = c.attach.ensures.terms;
  runs = attach_run _ _ c.args.now c.args.opened.number c.args.stream _ c.attach.result _
      c.attach.ensures.attaches;
}
