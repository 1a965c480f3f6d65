-- What is no UTF-8 is no item.
use Rattle.rv_commands.proofs.OfLines.{utf8_of_put}
use Rattle.rv_commands.proofs.lines.put_of.Goals as goal

pub returns-in_default-clause-none : goal.returns-in_default-clause-none
returns-in_default-clause-none c none fits =
    let is_text = c.in_default.ensures.succeeds (utf8_of_put c.args.queue c.args.line.items fits) in
    absurd (cc)
