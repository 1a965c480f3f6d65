-- The piece is pending, or its connection is given up.
use Rattle.std.proofs.Common.{inr, refl}
use Rattle.rv_hub.specs.Hubs.{hub_terms}
use Rattle.rv_engine.specs.Engines.{engine_state}
use Rattle.rv_traffic.specs.Views.{traffic_state, waits_of}
use Rattle.rv_traffic.proofs.WhatCame.{whole_made}
use Rattle.rv_traffic.proofs.Tables.{gives_up_then}
use Rattle.rv_traffic.proofs.reading.keep_piece.Goals as goal

pub returns-in-Ok-clause-keeps : goal.returns-in-Ok-clause-keeps
returns-in-Ok-clause-keeps g c =
    whole_made c.args.number c.args.traffic.now.links.buffer.items (traffic_state c.args.traffic.now)
    (record {
      engine = engine_state c.args.traffic.now.engine;
      table = c.keep.new.self.table.items;
      waits = waits_of c.args.traffic.now.waits;
    }) c.requires.there c.requires.none_pending c.in-Ok.ensures.kept c.keep.ensures.others c.requires.many
    refl

pub returns-in-Err-clause-keeps : goal.returns-in-Err-clause-keeps
returns-in-Err-clause-keeps g c = inr (record {
  many = c.requires.many;
  gives_up = gives_up_then c.args.traffic.now.engine.hub.has_journal
      (hub_terms c.args.traffic.now.engine.hub) c.args.now c.args.number (traffic_state c.args.traffic.now)
      (record {
        engine = engine_state c.args.traffic.now.engine;
        table = c.keep.new.self.table.items;
        waits = waits_of c.args.traffic.now.waits;
      }) (traffic_state c.give_up.new.traffic) refl c.keep.ensures.others c.give_up.ensures.gives_up;
})
