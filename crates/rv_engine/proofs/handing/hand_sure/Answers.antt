-- An event that can be isn't refused.
use Rattle.rv_engine.proofs.Noted.{handed_on, has_taken}
use Rattle.rv_engine.proofs.Sure.{opens_not}
use Rattle.rv_engine.proofs.handing.hand_sure.Goals as goal

pub note_event-requires : goal.note_event-requires
note_event-requires c =
    has_taken c.args.parts.now c.take.new.self c.requires.sound c.take.ensures.journal

pub returns-clause-takes : goal.returns-clause-takes
returns-clause-takes c =
    handed_on c.args.parts.now c.take.new.self c.note_event.new.parts c.args.now c.args.event c.in-Ok.given
    c.requires.sound c.requires.none_left c.requires.tells c.in-Ok.ensures.takes c.in-Ok.ensures.piece
    c.in-Ok.ensures.listed c.note_event.ensures.hub c.note_event.ensures.notes

pub unreachable-requires : goal.unreachable-requires
unreachable-requires c = opens_not c.args.event c.requires.no_opening c.in-Err.ensures.refused.0
