-- Who isn't read, and who is.
use Rattle.std.proofs.Common.{inl, inr, refl}
use Rattle.rv_traffic.proofs.WhatCame.{reads_within}
use Rattle.rv_hub.specs.Hubs.{hub_terms}
use Rattle.rv_traffic.specs.Views.{traffic_state}
use Rattle.rv_traffic.proofs.reading.read_one.Goals as goal

pub returns-then-is_over-clause-reads : goal.returns-then-is_over-clause-reads
returns-then-is_over-clause-reads g c = record {
  engine = refl;
  why = inl (inl c.if-is_over.ensures.yes, refl);
}

pub returns-then-not-may_offer-clause-reads : goal.returns-then-not-may_offer-clause-reads
returns-then-not-may_offer-clause-reads g c = record {
  engine = refl;
  why = inl (inr (inl c.if-not-may_offer.ensures.no), refl);
}

pub returns-then-not-is_none_pending-clause-reads : goal.returns-then-not-is_none_pending-clause-reads
returns-then-not-is_none_pending-clause-reads g c = record {
  engine = refl;
  why = inl (inr (inr c.if-not-is_none_pending.ensures.no), refl);
}

pub returns-clause-reads : goal.returns-clause-reads
returns-clause-reads g c =
    reads_within g.S.Read.remaining c.args.room c.args.traffic.now.engine.hub.has_journal
    (hub_terms c.args.traffic.now.engine.hub) c.args.now c.args.number (traffic_state c.args.traffic.now)
    c.read_new.result (traffic_state c.read_new.new.traffic) c.if-is_over.ensures.no
    c.if-not-is_none_pending.ensures.yes c.read_new.ensures.reads
