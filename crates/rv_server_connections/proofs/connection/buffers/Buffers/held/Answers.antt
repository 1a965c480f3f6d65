-- The marks tell how many bytes are held back.
use Rattle.std.proofs.Common.{◌∙◌}
use Rattle.rv_server_connections.proofs.OfConnection.Marks.{held_is}
use Rattle.rv_server_connections.proofs.connection.buffers.Buffers.held.Goals as goal

pub returns-clause-count : goal.returns-clause-count
returns-clause-count c = c.len.ensures.value ∙ held_is c.args.self.now.answers c.requires.answers
