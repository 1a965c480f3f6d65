-- The frame that was taken is unread no more; where memory is refused nothing changed.
use Rattle.std.proofs.Common.{ap}
use Rattle.rv_server_connections.specs.Connections.{Tally}
use Rattle.rv_server_connections.proofs.Unreads.{unread_read, unread_stays_in}
use Rattle.rv_server_connections.proofs.wires.Wires.answer.Goals as goal

pub invariant_of-self : goal.invariant_of-self
invariant_of-self c = record {
  sound = c.answer.ensures.sound;
  counted = unread_stays_in c.args.self.now.noted c.answer.new.self _ c.args.self.now.counted
      c.in_err-read.ensures.refused (ap (λ (t : Tally). t.unread) c.in_err-read.ensures.kept);
}

pub overflow_sub-self : goal.overflow_sub-self
overflow_sub-self c =
    (unread_read c.args.self.now.noted c.answer.new.self c.args.connection _ c.in_ok-read.read _
    c.args.self.now.counted c.in_ok-read.ensures.answers.sets c.in_ok-read.ensures.noted
    c.in_ok-read.ensures.read).1

pub invariant_of-self-2 : goal.invariant_of-self-2
invariant_of-self-2 c = record {
  sound = c.answer.ensures.sound;
  counted = (unread_read c.args.self.now.noted c.answer.new.self c.args.connection _ c.in_ok-read.read _
      c.args.self.now.counted c.in_ok-read.ensures.answers.sets c.in_ok-read.ensures.noted
      c.in_ok-read.ensures.read).0;
}
