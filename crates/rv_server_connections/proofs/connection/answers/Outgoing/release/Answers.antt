-- What goes in a pass goes after what went before.
use Rattle.rv_server_connections.proofs.OfConnection.Marks.{freed_more}
use Rattle.rv_server_connections.proofs.connection.answers.Outgoing.release.Goals as goal

pub loop-preserved : goal.loop-preserved
loop-preserved c = record {
  sound = c.release_first.ensures.sound;
  freed = freed_more c.args.written c.args.self.now c.loop.self c.release_first.new.self
      c.loop.invariant.sound
      c.loop.invariant.freed c.loop-test.ensures.first;
}
