-- Nothing is unread where no connection is open.
use Rattle.rv_server_connections.proofs.Unreads.{unread_none}
use Rattle.rv_server_connections.proofs.wires.Wires.new.Goals as goal

pub invariant_of-result : goal.invariant_of-result
invariant_of-result c = record {
  sound = c.empty.ensures.sound;
  counted = unread_none c.empty.result c.args.written c.empty.ensures.none c.empty.ensures.tally;
}
