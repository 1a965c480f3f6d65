-- What came of a read.
use Rattle.std.proofs.Common.{refl}
use Rattle.rv_hub.specs.Hubs.{hub_terms}
use Rattle.rv_engine.specs.Engines.{engine_state}
use Rattle.rv_traffic.specs.Views.{traffic_state, waits_of}
use Rattle.rv_traffic.proofs.WhatCame.{broken_readable, end_came, nothing_came, piece_read, piece_there}
use Rattle.rv_traffic.proofs.Tables.{gives_up_then, may_end}
use Rattle.rv_traffic.proofs.reading.read_new.Goals as goal

pub take_piece-requires-clause-none_pending : goal.take_piece-requires-clause-none_pending
take_piece-requires-clause-none_pending g c =
    (piece_there g.S.Read.remaining _ _ _ _ c.in-Piece.ensures.reads c.requires.none_pending).1

pub take_piece-requires-clause-there : goal.take_piece-requires-clause-there
take_piece-requires-clause-there g c =
    (piece_there g.S.Read.remaining _ _ _ _ c.in-Piece.ensures.reads c.requires.none_pending).0

pub hand-requires-clause-can : goal.hand-requires-clause-can
hand-requires-clause-can g c = may_end (engine_state c.args.traffic.now.engine).hub c.args.number
    c.requires.may

pub returns-in-Piece-clause-reads : goal.returns-in-Piece-clause-reads
returns-in-Piece-clause-reads g c =
    piece_read g.S.Read.remaining c.args.traffic.now.engine.hub.has_journal
    (hub_terms c.args.traffic.now.engine.hub) c.args.now c.args.number (traffic_state c.args.traffic.now)
    (record {
      engine = engine_state c.args.traffic.now.engine;
      table = c.read.new.self.table.items;
      waits = waits_of c.args.traffic.now.waits;
    }) c.read.new.self.buffer.items c.take_piece.result (traffic_state c.take_piece.new.traffic)
    c.requires.may refl c.requires.none_pending c.in-Piece.ensures.reads c.read.ensures.others
    c.take_piece.ensures.takes

pub returns-in-End-clause-reads : goal.returns-in-End-clause-reads
returns-in-End-clause-reads g c = record {
  may = c.requires.may;
  none_pending = c.requires.none_pending;
  given = c.hand.result;
  hands = record { made = c.hand.new.self.hub.dispatcher.entries.items; hands = c.hand.ensures.takes };
  link = end_came g.S.Read.remaining c.args.now c.args.traffic.now.links.table.items
      c.read.new.self.table.items
      c.args.number c.read.new.self.buffer.items c.in-End.ensures.reads c.read.ensures.others;
}

pub returns-in-Nothing-clause-reads : goal.returns-in-Nothing-clause-reads
returns-in-Nothing-clause-reads g c = (
  refl,
  nothing_came g.S.Read.remaining c.args.now c.args.traffic.now.links.table.items
      c.read.new.self.table.items c.args.number c.read.new.self.buffer.items c.in-Nothing.ensures.reads
      c.read.ensures.others,
)

pub returns-in-Broken-clause-reads : goal.returns-in-Broken-clause-reads
returns-in-Broken-clause-reads g c = record {
  may = c.requires.may;
  none_pending = c.requires.none_pending;
  readable = broken_readable g.S.Read.remaining _ _ _ _ c.in-Broken.ensures.reads;
  gives_up = gives_up_then c.args.traffic.now.engine.hub.has_journal
      (hub_terms c.args.traffic.now.engine.hub) c.args.now c.args.number (traffic_state c.args.traffic.now)
      (record {
        engine = engine_state c.args.traffic.now.engine;
        table = c.read.new.self.table.items;
        waits = waits_of c.args.traffic.now.waits;
      }) (traffic_state c.give_up.new.traffic) refl c.read.ensures.others c.give_up.ensures.gives_up;
}
