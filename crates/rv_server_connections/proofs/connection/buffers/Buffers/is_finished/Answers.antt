-- Of what the unread bytes are, one is the case.
use Rattle.std.proofs.Common.{arith, inr}
use Rattle.rv_server_connections.specs.connection.Fields.{traffic_of}
use Rattle.rv_server_connections.proofs.OfConnection.Sizes.{finished_open, unfinished_not_whole}
use Rattle.rv_server_connections.proofs.connection.buffers.Buffers.is_finished.Goals as goal

pub returns-in-Part : goal.returns-in-Part
returns-in-Part c =
    let unfinished = c.in-Part.ensures in (
      λ over. record {
        all_left = omega (arith, c.held.ensures.count, c.if-held-gt0.false);
        none_owed = c.if-self.false;
        over = inr (over, unfinished_not_whole c.args.self.now.unread.items unfinished);
      },
      λ finished. finished_open (traffic_of c.args.self.now) unfinished finished,
    )
