-- Lines are gathered alone.
use Rattle.rv_hub.specs.declared.parts.HubParts.{HubParts}
use Rattle.rv_hub.specs.Hubs.{hub_terms}
use Rattle.std.proofs.Common.{ap}
use Rattle.rv_traffic.proofs.CallsRun.{gatherings_run}
use Rattle.rv_traffic.proofs.traffic.Switchboard.catch_up.Goals as goal

pub returns-clause-runs : goal.returns-clause-runs
returns-clause-runs g c = record {
  terms = record {
    terms = ap (λ (h : HubParts). hub_terms h) c.catch_up.ensures.hub;
    journal = ap (λ (h : HubParts). h.has_journal) c.catch_up.ensures.hub;
  };
  runs = gatherings_run _ _ _ _ c.catch_up.ensures.gathers;
}
