-- The tick and the subscription are a whole step.
use Rattle.rv_steps.proofs.Whole.{whole_step}
use Rattle.rv_steps.proofs.steps.step.Goals as goal

pub returns : goal.returns
returns c =
    whole_step c.args.limits.now c.args.machine.now c.elapse-ticked.new.self c.hear-heard.new.self c.args.now
    c.args.message c.elapse-ticked.result c.hear-heard.result c.elapse-ticked.ensures.exact
    c.elapse-ticked.ensures.ticks c.hear-heard.ensures.hears c.in_ok-answer.answer c.in_ok-answer.ensures.says
