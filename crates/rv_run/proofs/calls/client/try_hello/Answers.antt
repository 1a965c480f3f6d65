-- The answer to the hello says whether it was in vain.
use Rattle.std.proofs.Common.{Ok, subst}
use Rattle.std.proofs.lemmas.Result.{IfErr-weaker, IfOk-weaker}
use Rattle.rv_text.specs.declared.message.Message.{Message}
use Rattle.rv_client.specs.Link.{Asks, link, message_frame}
use Rattle.rv_run.proofs.OfCalls.Settling.{hello_ends}
use Rattle.rv_run.proofs.calls.client.try_hello.Goals as goal

pub returns-in-Ok-clause-again : goal.returns-in-Ok-clause-again
returns-in-Ok-clause-again g c = IfOk-weaker c.hear_hello.result _ _ (λ same again. (
  again.0,
  record {
    answer = c.in-Ok.answer;
    asked = subst (λ (m : Message). Asks g.R.Read.remaining g.W.Write.contents (message_frame m)
        (link c.args.from.now c.args.to.now) (link c.ask.new.source c.ask.new.sink) (Ok c.in-Ok.answer))
        c.message-hello.ensures c.in-Ok.ensures;
    passed_by = again.1;
  },
)) c.hear_hello.ensures.again

pub returns-in-Ok-clause-ended : goal.returns-in-Ok-clause-ended
returns-in-Ok-clause-ended g c = IfErr-weaker c.hear_hello.result _ _ (λ ended ends. hello_ends
    g.R.Read.remaining g.W.Write.contents c.args.new c.in-Ok.answer (link c.args.from.now c.args.to.now)
    (link c.ask.new.source c.ask.new.sink) ended
    (subst (λ (m : Message). Asks g.R.Read.remaining g.W.Write.contents (message_frame m)
    (link c.args.from.now c.args.to.now) (link c.ask.new.source c.ask.new.sink) (Ok c.in-Ok.answer))
    c.message-hello.ensures c.in-Ok.ensures) ends) c.hear_hello.ensures.ended
