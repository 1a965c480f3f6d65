-- A reply is written in the room of texts, or its connection waits.
use Rattle.std.proofs.Common.{◌∙◌, Bor, Option, ap, refl, sym}
use Rattle.std.proofs.lemmas.Bool.{false≢true}
use Rattle.std.specs.Option.{option_map}
use Rattle.std.specs.String.{string_bytes}
use Rattle.rv_session.specs.declared.client.ClientState.{ClientState}
use Rattle.rv_hub.proofs.OfDispatcher.Rooms.{still_sound}
use Rattle.rv_hub.proofs.OfDispatcher.Replying.{says_told, waits_told}
use Rattle.rv_hub.proofs.dispatcher.Dispatcher.say_told.Goals as goal

pub wait-requires-clause-waits : goal.wait-requires-clause-waits
wait-requires-clause-waits c =
    waits_told c.args.self.now c.args.key c.unwrap-client.result.now
    (sym c.client.ensures ∙ ap (λ (o : Option (Bor ClientState)). option_map (λ r. r.now) o)
    c.unwrap-client.ensures)
    (c.is_waiting.ensures.0 c.if-is_waiting.true) c.requires.may_say

pub answer_with-requires-clause-sound : goal.answer_with-requires-clause-sound
answer_with-requires-clause-sound c =
    still_sound c.args.self.now (record c.args.self.now { wires = c.lend_room.new.self })
    (record { wires = c.lend_room.ensures.same; tally = c.lend_room.ensures.tally; rest = refl })
    c.requires.sound

pub returns-clause-says : goal.returns-clause-says
returns-clause-says c a says =
    says_told string_bytes c.request_text-text.result c.args.self.now
    (record c.args.self.now { wires = c.lend_room.new.self }) c.answer_with.new.self c.args.connection
    c.length-entries.result c.args.key c.unwrap-client.result.now a
    (record { wires = c.lend_room.ensures.same; tally = c.lend_room.ensures.tally; rest = refl })
    (sym c.client.ensures ∙ ap (λ (o : Option (Bor ClientState)). option_map (λ r. r.now) o)
    c.unwrap-client.ensures)
    (λ waits. false≢true (sym c.if-is_waiting.false ∙ c.is_waiting.ensures.1 waits)) c.requires.may_say says
    c.length-entries.ensures c.request_text-text.ensures.text c.answer_with.ensures.answers
    c.answer_with.ensures.lacks
