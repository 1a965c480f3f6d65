use Rattle.rv_hub.specs.Hubs.{hub_terms}
use Rattle.rv_traffic.specs.Views.{SameTerms, traffic_state}
use Rattle.rv_traffic.proofs.Shared.{SharedSoFar}
use Rattle.rv_traffic.proofs.sharing.share_out.Given as goal

abbrev pub invariant-loop-share : goal.invariant-loop-share
invariant-loop-share g l =
    SharedSoFar l.fn.traffic.engine.hub.has_journal (hub_terms l.fn.traffic.engine.hub) l.now
    (traffic_state l.fn.traffic) (traffic_state l.traffic) l._share × SameTerms l.fn.traffic l.traffic
