-- Who is to be looked at changes alone.
use Rattle.rv_hub.specs.declared.parts.HubParts.{HubParts}
use Rattle.rv_hub.specs.Hubs.{hub_state, hub_terms}
use Rattle.std.proofs.Common.{ap}
use Rattle.rv_traffic.proofs.CallsRun.{looks_run}
use Rattle.rv_traffic.proofs.traffic.Switchboard.heed.Goals as goal

pub returns-clause-runs : goal.returns-clause-runs
returns-clause-runs g c = record {
  terms = record {
    terms = ap (λ (h : HubParts). hub_terms h) c.look_at.ensures.hub;
    journal = ap (λ (h : HubParts). h.has_journal) c.look_at.ensures.hub;
  };
  runs = looks_run _ _ _ _ (record {
    hub = ap (λ (h : HubParts). hub_state h) c.look_at.ensures.hub;
    lines = c.look_at.ensures.lines;
    left = c.look_at.ensures.left;
    stored = c.look_at.ensures.stored;
  });
}
