-- The body is the one for want of memory.
use Rattle.std.proofs.Common.{subst}
use Rattle.rv_text.specs.Bodies.{refused_text}
use Rattle.rv_hub.specs.dispatcher.Going.{AnswersIt}
use Rattle.rv_hub.proofs.dispatcher.Dispatcher.lack.Goals as goal

pub returns-clause-lacks : goal.returns-clause-lacks
unfolding refused_text
returns-clause-lacks c =
    subst (λ t. AnswersIt c.args.self.now c.args.connection 0 t c.answer_by.new.self)
    c.no_memory_body.ensures.text
    c.answer_by.ensures.answers
