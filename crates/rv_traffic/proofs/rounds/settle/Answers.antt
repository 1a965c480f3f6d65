-- It may wait, and is to be looked at once more.
use Rattle.std.proofs.Common.{ap, refl}
use Rattle.rv_hub.specs.Hubs.{hub_state}
use Rattle.rv_traffic.specs.Views.{traffic_state}
use Rattle.rv_traffic.proofs.rounds.settle.Goals as goal

pub returns-clause-settles : goal.returns-clause-settles
returns-clause-settles g c = record {
  between = traffic_state c.wait_for_more.new.traffic;
  waits = c.wait_for_more.ensures.waits;
  again = record {
    looks = c.look_at.ensures.looks;
    same = record {
      hub = ap hub_state c.look_at.ensures.hub;
      lines = c.look_at.ensures.lines;
      left = c.look_at.ensures.left;
      stored = c.look_at.ensures.stored;
    };
    table = refl;
    waits = refl;
  };
}
