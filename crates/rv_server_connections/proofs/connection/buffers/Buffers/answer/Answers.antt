-- Few enough bytes are held for one answer more.
use Rattle.rv_server_connections.proofs.OfConnection.Marks.{room_for}
use Rattle.rv_server_connections.proofs.connection.buffers.Buffers.answer.Goals as goal

pub push-requires-clause-room : goal.push-requires-clause-room
push-requires-clause-room c = room_for c.args.to c.args.self.now c.requires.sound c.requires.can
