-- The member's text is read as what the member is.
use Rattle.std.proofs.Common.{Err, ap, subst, ◌∙◌}
use Rattle.serde_json.specs.View.{members_view}
use Rattle.rv_text.specs.declared.message.Message.TheVariants.{Request}
use Rattle.rv_text.specs.Bodies.{IsMessageBody}
use Rattle.rv_replies.proofs.AskedTold.{asked_body, asks, asks_json}
use Rattle.rv_replies.proofs.reading.read_asked.Goals as goal

pub returns-in-Ok-Request-clause-asks : goal.returns-in-Ok-Request-clause-asks
returns-in-Ok-Request-clause-asks c =
    asks (members_view c.args.members.now.entries) c.in_ok-text.field-0 c.in-Some.text c.as_bytes.result.now
    c.in-Some.is c.as_bytes.ensures.value c.in_ok-text.ensures c.requires c.in-Ok-Request.key
    c.in-Ok-Request.call
    (subst (IsMessageBody c.as_bytes.result.now) c.in-Ok-Request.field-0-is c.in-Ok-Request.ensures.found)

pub returns-in-Err-NotJson-clause-flaw : goal.returns-in-Err-NotJson-clause-flaw
returns-in-Err-NotJson-clause-flaw c flaw is =
    asks_json (members_view c.args.members.now.entries) c.in_ok-text.field-0 c.in-Some.text
    c.as_bytes.result.now
    c.in-Some.is c.as_bytes.ensures.value c.in_ok-text.ensures
    (c.decode_message.ensures.not_json (c.in-Err-NotJson.is ∙ ap Err c.in-Err-NotJson.field-0-is)).1

pub returns-in-Err-NotMessage-clause-flaw : goal.returns-in-Err-NotMessage-clause-flaw
returns-in-Err-NotMessage-clause-flaw c flaw is key call asks =
    c.decode_message.ensures.not_message (c.in-Err-NotMessage.is ∙ ap Err c.in-Err-NotMessage.field-0-is)
    (Request key call)
    (asked_body (members_view c.args.members.now.entries) c.in_ok-text.field-0 c.in-Some.text
    c.as_bytes.result.now c.in-Some.is c.as_bytes.ensures.value c.in_ok-text.ensures key call asks)
