-- It settles.
use Rattle.rv_traffic.specs.Views.{traffic_state}
use Rattle.rv_traffic.proofs.rounds.read_turn.Goals as goal

pub returns-clause-reads : goal.returns-clause-reads
returns-clause-reads g c = record {
  after = traffic_state c.read_if_ready-came.new.traffic;
  made = c.read_if_ready-came.ensures.reads;
  settles = c.settle.ensures.settles;
}
