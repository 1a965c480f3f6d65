-- The list alone changed.
use Rattle.std.proofs.Common.{ap}
use Rattle.rv_server_connections.specs.Connections.{Tally}
use Rattle.rv_server_connections.proofs.Unreads.{unread_stays_in}
use Rattle.rv_server_connections.proofs.wires.Wires.clear_changed.Goals as goal

pub invariant_of-self : goal.invariant_of-self
invariant_of-self c = record {
  sound = c.clear_changed.ensures.sound;
  counted = unread_stays_in c.args.self.now.noted c.clear_changed.new.self _ c.args.self.now.counted
      c.clear_changed.ensures.same (ap (λ (t : Tally). t.unread) c.clear_changed.ensures.cleared);
}
