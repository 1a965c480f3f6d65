-- An unfinished frame isn't whole.
use Rattle.rv_server_connections.proofs.OfConnection.Sizes.{unfinished_not_whole}
use Rattle.rv_server_connections.proofs.connection.buffers.Buffers.next.Goals as goal

pub returns-in-Part-clause-none : goal.returns-in-Part-clause-none
returns-in-Part-clause-none c = λ due.
    unfinished_not_whole c.args.self.now.unread.items c.in-Part.ensures due.whole
