-- An answer's text is written in the room of texts, which changes nothing else.
use Rattle.std.proofs.Common.{◌∙◌, ap}
use Rattle.std.specs.String.{string_bytes}
use Rattle.rv_hub.specs.dispatcher.Effects.{rests_on}
use Rattle.rv_hub.proofs.OfDispatcher.Rooms.{still_due, still_sound, text_in_room}
use Rattle.rv_hub.proofs.dispatcher.Dispatcher.answer.Goals as goal

pub answer_with-requires-clause-sound : goal.answer_with-requires-clause-sound
answer_with-requires-clause-sound c =
    still_sound c.args.self.now c.text_of-text.new.self c.text_of-text.ensures.same c.requires.sound

pub answer_with-requires-clause-due : goal.answer_with-requires-clause-due
answer_with-requires-clause-due c =
    still_due c.args.self.now c.text_of-text.new.self c.text_of-text.ensures.same c.args.connection
    c.requires.due

pub returns-clause-answers : goal.returns-clause-answers
returns-clause-answers c =
    text_in_room string_bytes c.text_of-text.result c.args.self.now c.text_of-text.new.self
    c.answer_with.new.self c.args.connection c.rests_on-entries.result c.args.answer.now
    c.text_of-text.ensures.same
    (c.rests_on-entries.ensures ∙ ap (λ n. rests_on c.args.answer.now n) c.length.ensures)
    c.text_of-text.ensures.text c.answer_with.ensures.answers c.answer_with.ensures.lacks
