-- What a socket took.
use Rattle.std.proofs.Common.{◌<◌, ◌≤◌, ◌∙◌, ℕ, List, None, Some, inr, length, refl, subst, sym}
use Rattle.rv_hub.specs.Hubs.{hub_terms}
use Rattle.rv_engine.specs.Engines.{engine_state}
use Rattle.rv_traffic.specs.Calls.{ChangesLink, TookNone}
use Rattle.rv_traffic.specs.Views.{traffic_state, waits_of}
use Rattle.rv_traffic.proofs.Tables.{gives_up_then, open_at}
use Rattle.rv_traffic.proofs.WhatLeft.{broken_writable, none_ready, rested_none, some_ready, took_none}
use Rattle.rv_traffic.proofs.WhatLeft.{took_ready, took_within}
use Rattle.rv_traffic.proofs.writing.send.Goals as goal

pub returns-in_default-clause-writes : goal.returns-in_default-clause-writes
returns-in_default-clause-writes g c = record {
  closed = open_at c.args.traffic.now.engine.hub c.hub.result.now c.args.number None c.hub.ensures
      c.in_default.ensures.wire;
  engine = refl;
  link = record { none = c.remove.ensures.none; others = c.remove.ensures.others };
}

pub hand-requires-clause-can : goal.hand-requires-clause-can
hand-requires-clause-can g c =
    let at = open_at c.args.traffic.now.engine.hub c.hub.result.now c.args.number (Some c.in-Some.wire.now)
    c.hub.ensures c.in-Some.ensures.wire in
    let is = c.ready-ready.ensures in
    record {
      wire = c.in-Some.wire.now;
      there = at;
      so = subst (λ (l : List ℕ). c.in-Took.count ≤ length l) is
          (took_within g.S.Write.contents _ _ _ _ _ c.in-Took.ensures.writes).1;
    }

pub returns-then-is_empty-clause-writes : goal.returns-then-is_empty-clause-writes
returns-then-is_empty-clause-writes g c =
    let at = open_at c.args.traffic.now.engine.hub c.hub.result.now c.args.number (Some c.in-Some.wire.now)
    c.hub.ensures c.in-Some.ensures.wire in
    let is = c.ready-ready.ensures in
    record {
      engine = refl;
      why = inr (record {
        wire = c.in-Some.wire.now;
        there = at;
        so = rested_none g.S.Write.contents c.args.traffic.now.links.table.items c.rest.new.self.table.items
            c.args.number c.args.now c.in-Some.wire.now.ready
            (sym is ∙ none_ready _ (sym c.is_empty.ensures ∙ c.if-is_empty.true)) c.requires.there
            c.rest.ensures.rests c.rest.ensures.others;
      });
    }

pub returns-in-Took-clause-writes : goal.returns-in-Took-clause-writes
returns-in-Took-clause-writes g c =
    let at = open_at c.args.traffic.now.engine.hub c.hub.result.now c.args.number (Some c.in-Some.wire.now)
    c.hub.ensures c.in-Some.ensures.wire in
    let is = c.ready-ready.ensures in
    record {
      wire = c.in-Some.wire.now;
      is_open = at;
      count = c.in-Took.count;
      some = (took_within g.S.Write.contents _ _ _ _ _ c.in-Took.ensures.writes).0;
      within = subst (λ (l : List ℕ). c.in-Took.count ≤ length l) is
          (took_within g.S.Write.contents _ _ _ _ _ c.in-Took.ensures.writes).1;
      given = c.hand.result;
      hands = record { made = c.hand.new.self.hub.dispatcher.entries.items; hands = c.hand.ensures.takes };
      link = took_ready g.S.Write.contents c.args.now c.args.traffic.now.links.table.items
          c.write.new.self.table.items c.args.number c.ready-ready.result.now c.in-Some.wire.now.ready
          c.in-Took.count is
          c.in-Took.ensures.writes c.write.ensures.others;
    }

pub returns-in-Nothing-clause-writes : goal.returns-in-Nothing-clause-writes
returns-in-Nothing-clause-writes g c =
    let at = open_at c.args.traffic.now.engine.hub c.hub.result.now c.args.number (Some c.in-Some.wire.now)
    c.hub.ensures c.in-Some.ensures.wire in
    let is = c.ready-ready.ensures in
    record {
      engine = refl;
      why = inr (record {
        wire = c.in-Some.wire.now;
        there = at;
        so = subst (λ (l : List ℕ). ChangesLink c.args.traffic.now.links.table.items c.args.number
            (TookNone g.S.Write.contents c.args.now l) c.write.new.self.table.items) is
            (took_none g.S.Write.contents c.args.now c.args.traffic.now.links.table.items
            c.write.new.self.table.items c.args.number c.ready-ready.result.now c.requires.there
            (some_ready _ (sym c.is_empty.ensures ∙ c.if-is_empty.false)) c.in-Nothing.ensures.writes
            c.write.ensures.others);
      });
    }

pub returns-in-Broken-clause-writes : goal.returns-in-Broken-clause-writes
returns-in-Broken-clause-writes g c =
    let at = open_at c.args.traffic.now.engine.hub c.hub.result.now c.args.number (Some c.in-Some.wire.now)
    c.hub.ensures c.in-Some.ensures.wire in
    let is = c.ready-ready.ensures in
    record {
      ready = record {
        wire = c.in-Some.wire.now;
        there = at;
        so = subst (λ (l : List ℕ). 0 < length l) is
            (some_ready _ (sym c.is_empty.ensures ∙ c.if-is_empty.false));
      };
      writable = broken_writable g.S.Write.contents _ _ _ _ c.in-Broken.ensures.writes;
      gives_up = gives_up_then c.args.traffic.now.engine.hub.has_journal
          (hub_terms c.args.traffic.now.engine.hub) c.args.now c.args.number
          (traffic_state c.args.traffic.now)
          (record {
            engine = engine_state c.args.traffic.now.engine;
            table = c.write.new.self.table.items;
            waits = waits_of c.args.traffic.now.waits;
          }) (traffic_state c.give_up.new.traffic) refl c.write.ensures.others c.give_up.ensures.gives_up;
    }
