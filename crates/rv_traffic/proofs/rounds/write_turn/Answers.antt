-- What comes of a write, and then of a look.
use Rattle.rv_traffic.specs.Views.{traffic_state}
use Rattle.rv_traffic.proofs.rounds.write_turn.Goals as goal

pub returns-clause-writes : goal.returns-clause-writes
returns-clause-writes g c = record {
  after = traffic_state c.write_if_ready-what.new.traffic;
  writes = c.write_if_ready-what.ensures.writes;
  between = traffic_state c.wait_for_more.new.traffic;
  waits = c.wait_for_more.ensures.waits;
  again = c.look_for_more.ensures.again;
}
