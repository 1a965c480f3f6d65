-- It settles.
use Rattle.rv_traffic.specs.Views.{traffic_state}
use Rattle.rv_traffic.proofs.sharing.share_turn.Goals as goal

pub returns-clause-shares : goal.returns-clause-shares
returns-clause-shares g c = record {
  after = traffic_state c.offer_if_ready-came.new.traffic;
  made = c.offer_if_ready-came.ensures.offers;
  settles = c.settle.ensures.settles;
}
