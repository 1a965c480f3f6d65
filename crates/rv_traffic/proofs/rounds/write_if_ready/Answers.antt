-- A write is made where no entry is left.
use Rattle.std.proofs.Common.{ap, refl, subst}
use Rattle.rv_hub.specs.declared.parts.HubParts.{HubParts}
use Rattle.rv_hub.specs.Hubs.{hub_terms}
use Rattle.rv_engine.specs.Engines.{engine_state}
use Rattle.rv_traffic.specs.Calls.{WritesOne}
use Rattle.rv_traffic.specs.Views.{traffic_state, waits_of}
use Rattle.rv_traffic.proofs.rounds.write_if_ready.Goals as goal

pub returns-then-not-catch_up-clause-writes : goal.returns-then-not-catch_up-clause-writes
returns-then-not-catch_up-clause-writes g c = record {
  ready = engine_state c.catch_up.new.self;
  gathers = c.catch_up.ensures.gathers;
  made = (c.if-not-catch_up.ensures.no, refl);
  waits = refl;
}

pub returns-clause-writes : goal.returns-clause-writes
returns-clause-writes g c = record {
  ready = engine_state c.catch_up.new.self;
  gathers = c.catch_up.ensures.gathers;
  made = (
    c.if-not-catch_up.ensures.yes,
    subst (λ (h : HubParts). WritesOne g.S.Write.contents h.has_journal (hub_terms h) c.args.now c.args.number
        (record {
          engine = engine_state c.catch_up.new.self;
          table = c.args.traffic.now.links.table.items;
          waits = waits_of c.args.traffic.now.waits;
        }) c.write_one.result (traffic_state c.write_one.new.traffic)) c.catch_up.ensures.hub
        c.write_one.ensures.writes,
  );
  waits = ap waits_of c.write_one.ensures.waits;
}
