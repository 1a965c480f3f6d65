-- The hub is told of an open connection.
use Rattle.std.proofs.Common.{inl, refl}
use Rattle.rv_traffic.proofs.writing.tell_lost.Goals as goal

pub returns-then-not-is_open-clause-writes : goal.returns-then-not-is_open-clause-writes
returns-then-not-is_open-clause-writes g c = record {
  engine = refl;
  why = inl (c.requires.none, refl, c.if-not-is_open.ensures.no);
}

pub returns-clause-writes : goal.returns-clause-writes
returns-clause-writes g c = (
  c.requires.none,
  refl,
  c.hand.result,
  record { made = c.hand.new.self.hub.dispatcher.entries.items; hands = c.hand.ensures.takes },
)
