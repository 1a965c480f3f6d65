-- A text's room is kept for the next one, which changes nothing else.
use Rattle.std.proofs.Common.{refl, subst}
use Rattle.rv_hub.specs.dispatcher.Going.{AnswersIt}
use Rattle.rv_hub.proofs.OfDispatcher.Rooms.{answered_in_room, still_sound}
use Rattle.rv_hub.proofs.OfDispatcher.Texts.{ok_holds}
use Rattle.rv_hub.proofs.dispatcher.Dispatcher.answer_with.Goals as goal

pub returns-in-Ok-clause-sound : goal.returns-in-Ok-clause-sound
returns-in-Ok-clause-sound c =
    still_sound c.answer_by.new.self c.keep_room_of.new.self c.keep_room_of.ensures c.answer_by.ensures.sound

pub returns-in-Ok-clause-answers : goal.returns-in-Ok-clause-answers
returns-in-Ok-clause-answers c =
    ok_holds c.args.text c.in-Ok.text _ c.in-Ok.is
    (subst (λ t. AnswersIt c.args.self.now c.args.connection c.args.entries t c.keep_room_of.new.self)
    c.as_bytes.ensures.value
    (answered_in_room c.args.self.now c.args.self.now c.answer_by.new.self c.keep_room_of.new.self
    c.args.connection c.args.entries c.as_bytes.result.now
    (record { wires = refl; tally = refl; rest = refl }) c.answer_by.ensures.answers c.keep_room_of.ensures))
