-- Where there is no room for an entry no step is made.
use Rattle.rv_text.specs.declared.answer.Answer.TheVariants as answer
use Rattle.rv_text.specs.declared.answer.Refusal.TheVariants.{NoMemory}
use Rattle.rv_text.specs.Bodies.{answer_text}
use Rattle.rv_hub.specs.dispatcher.Fields.{dispatcher_state, dispatcher_terms}
use Rattle.rv_hub.proofs.OfDispatcher.Striding.{lacking_effect, steady_from, strides_from, unstepped}
use Rattle.rv_hub.proofs.dispatcher.Dispatcher.hear.Goals as goal

pub returns-in-Err-clause-steady : goal.returns-in-Err-clause-steady
returns-in-Err-clause-steady c =
    let d = record c.args.self.now { entries = c.reserve.new.self } in
    let did = c.lack.ensures.lacks.did c.requires.asked.0 (record { frame = c.requires.asked.1.frame }) in
    (unstepped d c.lack.new.self c.args.connection 0 (answer_text (answer.Refused NoMemory))
    c.requires.asked.0
    (steady_from c.args.self.now c.reserve.new.self c.reserve.ensures.capacity c.requires.steady)
    c.lack.ensures.sound did c.lack.ensures.lacks.takes
    (lacking_effect (dispatcher_terms d) (dispatcher_state d) (dispatcher_state c.lack.new.self)
    c.args.connection
    c.requires.asked.0 c.requires.asked.1.frame did)).0

pub returns-in-Err-clause-strides : goal.returns-in-Err-clause-strides
returns-in-Err-clause-strides c =
    let d = record c.args.self.now { entries = c.reserve.new.self } in
    let did = c.lack.ensures.lacks.did c.requires.asked.0 (record { frame = c.requires.asked.1.frame }) in
    strides_from c.args.self.now c.lack.new.self c.reserve.new.self c.args.connection c.reserve.ensures.items
    (unstepped d c.lack.new.self c.args.connection 0 (answer_text (answer.Refused NoMemory))
    c.requires.asked.0
    (steady_from c.args.self.now c.reserve.new.self c.reserve.ensures.capacity c.requires.steady)
    c.lack.ensures.sound did c.lack.ensures.lacks.takes
    (lacking_effect (dispatcher_terms d) (dispatcher_state d) (dispatcher_state c.lack.new.self)
    c.args.connection
    c.requires.asked.0 c.requires.asked.1.frame did)).1
