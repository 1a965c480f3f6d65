-- An unfinished frame has no bad length.
use Rattle.std.proofs.Common.{rules, refl}
use Rattle.rv_server_connections.proofs.OfConnection.Sizes.{unfinished_not_bad}
use Rattle.rv_server_connections.proofs.connection.buffers.Buffers.may_offer.Goals as goal

pub returns-in-Part : goal.returns-in-Part
returns-in-Part c = (
  λ _. record {
    none_owed = search (rules, c.may_take.ensures);
    room = search (rules, c.may_take.ensures);
    open_input = c.if-self.false;
    good_length = unfinished_not_bad c.args.self.now.unread.items c.in-Part.ensures;
  },
  λ _. refl,
)
