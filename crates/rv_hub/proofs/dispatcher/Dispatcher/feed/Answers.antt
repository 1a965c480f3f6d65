-- Bytes are taken, or it is closed.
use Rattle.std.proofs.Common.{◌∙◌, refl, sym}
use Rattle.rv_hub.proofs.OfDispatcher.Noting.{is_some_of, still_some}
use Rattle.rv_hub.proofs.OfDispatcher.Turning.{fed, fed_closed, has_bytes, same_sound, same_steady}
use Rattle.rv_hub.proofs.dispatcher.Dispatcher.feed.Goals as goal

pub returns-in-Ok : goal.returns-in-Ok
returns-in-Ok c =
    let all = fed c.args.self.now c.take_in.new.self c.args.connection c.args.piece.now c.in-Ok.taken
    c.unwrap_or.result c.unwrap_or.ensures c.requires c.in-Ok.ensures.takes c.in-Ok.ensures.noted
    c.in-Ok.ensures.no_more c.in-Ok.ensures.same c.in-Ok.ensures.same_tally in
    record { steady = all.0; feeds = all.1; stops = all.2 }

pub returns-in-Err-clause-feeds : goal.returns-in-Err-clause-feeds
returns-in-Err-clause-feeds c =
    (fed_closed c.args.self.now (record c.args.self.now { wires = c.take_in.new.self }) c.shut.new.self
    c.args.connection c.args.piece.now (has_bytes _ (sym c.is_empty.ensures ∙ c.if-is_empty.false))
    c.in-Err.ensures.wants refl c.in-Err.ensures.refused c.in-Err.ensures.kept
    c.shut.ensures.closes c.shut.ensures.rest c.shut.ensures.less).0

pub shut-requires-clause-sound : goal.shut-requires-clause-sound
shut-requires-clause-sound c =
    same_sound c.args.self.now c.take_in.new.self c.requires.sound c.in-Err.ensures.refused

pub shut-requires-clause-open_wire : goal.shut-requires-clause-open_wire
shut-requires-clause-open_wire c =
    still_some _ _ c.args.connection c.in-Err.ensures.refused (is_some_of _ _ c.in-Err.ensures.wants.there)

pub returns-in-Err-clause-steady : goal.returns-in-Err-clause-steady
returns-in-Err-clause-steady c =
    c.shut.ensures.steady (same_steady c.args.self.now c.take_in.new.self c.requires c.in-Err.ensures.refused)
