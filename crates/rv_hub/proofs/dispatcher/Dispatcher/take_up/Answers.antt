-- By what it was read as.
use Rattle.std.proofs.Common.{IfOk, Result, subst}
use Rattle.rv_json.specs.declared.fault.TextFault.{TextFault}
use Rattle.rv_text.specs.declared.message.Message.{Message}
use Rattle.rv_text.specs.Bodies.{IsMessageBody}
use Rattle.rv_hub.specs.dispatcher.Fields.{dispatcher_state, dispatcher_terms}
use Rattle.rv_hub.specs.dispatcher.Going.{AnswersIt, fault_answer}
use Rattle.rv_hub.proofs.OfDispatcher.Striding.{fault_effect, unstepped}
use Rattle.rv_hub.proofs.dispatcher.Dispatcher.take_up.Goals as goal

pub hear-requires-clause-asked : goal.hear-requires-clause-asked
hear-requires-clause-asked c = (
  c.requires.message.body,
  c.requires.message.asked,
  subst (λ (r : Result Message TextFault). IfOk r (IsMessageBody c.requires.message.body)) c.in-Ok.is
      c.requires.message.reads.found,
)

pub returns-in-Err : goal.returns-in-Err
returns-in-Err c =
    let answers = subst (λ t. AnswersIt c.args.self.now c.args.connection 0 t c.answer_by.new.self)
    c.fault_body.ensures.text c.answer_by.ensures.answers in
    let did = answers.did c.requires.message.body c.requires.message.asked in
    let both = unstepped c.args.self.now c.answer_by.new.self c.args.connection 0
    (fault_answer c.in-Err.fault) c.requires.message.body c.requires.steady c.answer_by.ensures.sound did
    answers.takes
    (fault_effect (dispatcher_terms c.args.self.now) (dispatcher_state c.args.self.now)
    (dispatcher_state c.answer_by.new.self)
    c.args.connection c.requires.message.body c.args.read c.in-Err.fault c.requires.message.asked.frame
    c.requires.message.reads c.in-Err.is did) in
    record { steady = both.0; strides = both.1 }
