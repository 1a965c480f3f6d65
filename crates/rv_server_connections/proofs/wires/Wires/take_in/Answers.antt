-- What was taken is counted; where memory is refused nothing changed.
use Rattle.std.proofs.Common.{◌+◌, ◌∙◌, ap, arith}
use Rattle.rv_server_connections.specs.Connections.{Tally}
use Rattle.rv_server_connections.proofs.Unreads.{unread_bounded, unread_stays_in, unread_taken}
use Rattle.rv_server_connections.proofs.wires.Wires.take_in.Goals as goal

pub invariant_of-self : goal.invariant_of-self
invariant_of-self c = record {
  sound = c.take_in.ensures.sound;
  counted = unread_stays_in c.args.self.now.noted c.take_in.new.self _ c.args.self.now.counted
      c.in_err-taken.ensures.refused (ap (λ (t : Tally). t.unread) c.in_err-taken.ensures.kept);
}

pub add_unread-self-requires : goal.add_unread-self-requires
add_unread-self-requires c =
    omega (arith, unread_bounded c.args.self.now.noted _ c.args.self.now.counted, c.room-room.ensures)

pub invariant_of-self-2 : goal.invariant_of-self-2
invariant_of-self-2 c = record {
  sound = c.take_in.ensures.sound;
  counted = unread_taken c.in_ok-taken.taken c.args.self.now.noted c.take_in.new.self c.args.connection _
      c.add_unread-self.result c.args.piece.now c.args.self.now.counted c.in_ok-taken.ensures.takes
      c.in_ok-taken.ensures.noted c.in_ok-taken.ensures.few c.in_ok-taken.ensures.same
      c.in_ok-taken.ensures.same_tally
      (c.add_unread-self.ensures ∙ ap (λ k. c.args.self.now.unread + k) c.unwrap_or.ensures);
}
