-- Few enough bytes are held, and none is unread.
use Rattle.std.proofs.Common.{arith, subst, sym}
use Rattle.rv_server_connections.specs.connection.Fields.{IsBegun}
use Rattle.rv_server_connections.proofs.OfConnection.Marks.{held_is}
use Rattle.rv_server_connections.proofs.connection.buffers.Buffers.take_frame.Goals as goal

pub returns-clause-sound : goal.returns-clause-sound
returns-clause-sound c =
    let answers = c.args.self.now.answers in
    record {
      front = subst IsBegun (sym c.clear.ensures) tt;
      answers = c.requires.sound.answers;
      room = λ _. omega (arith, held_is answers c.requires.sound.answers, c.requires.due.room);
    }
