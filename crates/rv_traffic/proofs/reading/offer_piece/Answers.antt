-- A piece is offered.
use Rattle.std.proofs.Common.{◌≡◌, ℕ, List, ap, arith, drop, length, refl, subst}
use Rattle.rv_hub.specs.Hubs.{hub_terms}
use Rattle.rv_engine.specs.Engines.{engine_state}
use Rattle.rv_traffic.specs.Views.{traffic_state, waits_of}
use Rattle.rv_traffic.proofs.WhatCame.{keeps_made, kept_whole, loses_made, some_left}
use Rattle.rv_traffic.proofs.Tables.{gives_up_at, may_end}
use Rattle.rv_traffic.proofs.reading.offer_piece.Goals as goal

pub hand-taken-requires-clause-can : goal.hand-taken-requires-clause-can
hand-taken-requires-clause-can g c = may_end (engine_state c.args.traffic.now.engine).hub c.args.number
    c.requires.may

pub returns-then-count-piece-clause-offers : goal.returns-then-count-piece-clause-offers
returns-then-count-piece-clause-offers g c =
    kept_whole c.args.traffic.now.engine.hub.has_journal (hub_terms c.args.traffic.now.engine.hub) c.args.now
    c.args.number c.args.traffic.now.links.buffer.items (traffic_state c.args.traffic.now)
    (engine_state c.hand-taken.new.self) _ c.hand-taken.new.self.hub.dispatcher.entries.items
    c.hand-taken.result
    c.at_most-count.result c.hand-taken.ensures.takes c.requires.there c.requires.none_pending
    (refl, c.piece-piece.ensures)
    (subst (λ (p : List ℕ). drop c.at_most-count.result p ≡ drop c.hand-taken.result p) c.piece-piece.ensures
    c.at_most-count.ensures.same)
    (omega (arith, c.if-count-piece.true, ap length c.piece-piece.ensures)) c.requires.small

pub returns-in-Ok-clause-offers : goal.returns-in-Ok-clause-offers
returns-in-Ok-clause-offers g c =
    keeps_made c.args.traffic.now.engine.hub.has_journal (hub_terms c.args.traffic.now.engine.hub) c.args.now
    c.args.number c.args.traffic.now.links.buffer.items (traffic_state c.args.traffic.now)
    (record {
      engine = engine_state c.hand-taken.new.self;
      table = c.keep.new.self.table.items;
      waits = waits_of c.args.traffic.now.waits;
    }) _
    c.hand-taken.new.self.hub.dispatcher.entries.items c.hand-taken.result c.at_most-count.result
    c.hand-taken.ensures.takes c.requires.there c.requires.none_pending (refl, c.piece-piece.ensures)
    (subst (λ (p : List ℕ). drop c.at_most-count.result p ≡ drop c.hand-taken.result p) c.piece-piece.ensures
    c.at_most-count.ensures.same) c.in-Ok.ensures.kept c.keep.ensures.others
    c.requires.small

pub returns-in-Err-clause-offers : goal.returns-in-Err-clause-offers
returns-in-Err-clause-offers g c =
    loses_made c.args.traffic.now.engine.hub.has_journal (hub_terms c.args.traffic.now.engine.hub) c.args.now
    c.args.number c.args.traffic.now.links.buffer.items (traffic_state c.args.traffic.now)
    (record {
      engine = engine_state c.hand-taken.new.self;
      table = c.keep.new.self.table.items;
      waits = waits_of c.args.traffic.now.waits;
    })
    (traffic_state c.give_up.new.traffic) _ c.hand-taken.new.self.hub.dispatcher.entries.items
    c.hand-taken.result
    (some_left c.args.traffic.now.links.buffer.items c.hand-taken.result c.at_most-count.result
    (subst (λ (p : List ℕ). drop c.at_most-count.result p ≡ drop c.hand-taken.result p) c.piece-piece.ensures
    c.at_most-count.ensures.same)
    (omega (
      arith,
      c.if-count-piece.false,
      c.at_most-count.ensures.within,
      ap length c.piece-piece.ensures,
    ))) c.requires.small c.hand-taken.ensures.takes (refl, c.piece-piece.ensures) c.keep.ensures.others
    (gives_up_at c.args.traffic.now.engine.hub.has_journal c.hand-taken.new.self.hub.has_journal
    (hub_terms c.args.traffic.now.engine.hub) (hub_terms c.hand-taken.new.self.hub) c.args.now c.args.number _
    _
    c.hand-taken.ensures.journal c.hand-taken.ensures.terms c.give_up.ensures.gives_up)
