-- What the hub says, and what is noted of it.
use Rattle.rv_engine.proofs.Noted.{handed_on, has_taken}
use Rattle.rv_engine.proofs.handing.hand_over.Goals as goal

pub note_event-requires : goal.note_event-requires
note_event-requires c =
    has_taken c.args.parts.now c.handle.new.self c.requires.sound c.handle.ensures.journal

pub returns-in-Ok-clause-takes : goal.returns-in-Ok-clause-takes
returns-in-Ok-clause-takes c =
    handed_on c.args.parts.now c.handle.new.self c.note_event.new.parts c.args.now c.args.event c.in-Ok.given
    c.requires.sound c.requires.none_left c.requires.tells c.in-Ok.ensures.takes c.in-Ok.ensures.piece
    c.in-Ok.ensures.listed c.note_event.ensures.hub c.note_event.ensures.notes
