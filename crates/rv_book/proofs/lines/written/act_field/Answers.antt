-- The body of a message that fits is short.
use Rattle.std.proofs.Common.{IfSome, subst}
use Rattle.std.proofs.lemmas.Result.{IfOk-weaker}
use Rattle.rv_account.specs.declared.entry.Act.{Act}
use Rattle.rv_text.specs.Limits.{FitsMessage}
use Rattle.rv_book.specs.lines.EntryText.{message_in}
use Rattle.rv_book.proofs.OfLines.Texts.{message_fits}
use Rattle.rv_book.proofs.lines.written.act_field.Goals as goal

pub returns-in-Hello-clause-short : goal.returns-in-Hello-clause-short
returns-in-Hello-clause-short c act_fits =
    let fits = subst (λ (a : Act). IfSome (message_in a) FitsMessage) c.in-Hello.is
    (message_fits c.args.act.now act_fits) in
    IfOk-weaker c.encode_message.result _ _ (λ s body. body.1) (c.encode_message.ensures.short fits)

pub returns-in-Arrive-clause-short : goal.returns-in-Arrive-clause-short
returns-in-Arrive-clause-short c act_fits =
    let fits = subst (λ (a : Act). IfSome (message_in a) FitsMessage) c.in-Arrive.is
    (message_fits c.args.act.now act_fits) in
    IfOk-weaker c.encode_request.result _ _ (λ s body. body.1) (c.encode_request.ensures.short fits)

pub returns-in-Cancel-clause-short : goal.returns-in-Cancel-clause-short
returns-in-Cancel-clause-short c act_fits =
    let fits = subst (λ (a : Act). IfSome (message_in a) FitsMessage) c.in-Cancel.is
    (message_fits c.args.act.now act_fits) in
    IfOk-weaker c.encode_message-in-Cancel.result _ _ (λ s body. body.1)
    (c.encode_message-in-Cancel.ensures.short fits)
