-- Nothing of a new connection is unread.
use Rattle.rv_server_connections.proofs.Unreads.{unread_opened}
use Rattle.rv_server_connections.proofs.wires.Wires.open.Goals as goal

pub invariant_of-self : goal.invariant_of-self
invariant_of-self c = record {
  sound = c.open.ensures.sound;
  counted = unread_opened c.open.result c.args.self.now.noted c.open.new.self _ c.args.self.now.counted
      c.open.ensures.opened c.open.ensures.noted c.open.ensures.refused c.open.ensures.kept;
}
