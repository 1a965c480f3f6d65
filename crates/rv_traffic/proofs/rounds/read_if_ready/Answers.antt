-- A read is made where no entry is left.
use Rattle.std.proofs.Common.{ap, refl, subst}
use Rattle.rv_hub.specs.declared.parts.HubParts.{HubParts}
use Rattle.rv_hub.specs.Hubs.{hub_terms}
use Rattle.rv_engine.specs.Engines.{engine_state}
use Rattle.rv_traffic.specs.Calls.{ReadsOne}
use Rattle.rv_traffic.specs.Views.{traffic_state, waits_of}
use Rattle.rv_traffic.proofs.rounds.read_if_ready.Goals as goal

pub returns-then-not-catch_up-clause-reads : goal.returns-then-not-catch_up-clause-reads
returns-then-not-catch_up-clause-reads g c = record {
  ready = engine_state c.catch_up.new.self;
  gathers = c.catch_up.ensures.gathers;
  made = (c.if-not-catch_up.ensures.no, refl);
  waits = refl;
}

pub returns-clause-reads : goal.returns-clause-reads
returns-clause-reads g c = record {
  ready = engine_state c.catch_up.new.self;
  gathers = c.catch_up.ensures.gathers;
  made = (
    c.if-not-catch_up.ensures.yes,
    subst (λ (h : HubParts). ReadsOne g.S.Read.remaining c.args.room h.has_journal (hub_terms h) c.args.now
        c.args.number
        (record {
          engine = engine_state c.catch_up.new.self;
          table = c.args.traffic.now.links.table.items;
          waits = waits_of c.args.traffic.now.waits;
        }) c.read_one.result (traffic_state c.read_one.new.traffic)) c.catch_up.ensures.hub
        c.read_one.ensures.reads,
  );
  waits = ap waits_of c.read_one.ensures.waits;
}
