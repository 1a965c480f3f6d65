-- The member's text is read as what the member is.
use Rattle.std.proofs.Common.{Err, ap, subst, ◌∙◌}
use Rattle.serde_json.specs.View.{members_view}
use Rattle.rv_text.specs.declared.answer.Answer.TheVariants.{Replied}
use Rattle.rv_text.specs.Bodies.{IsAnswerBody}
use Rattle.rv_replies.proofs.AskedTold.{tells, tells_json, tells_other, told_body}
use Rattle.rv_replies.proofs.reading.read_reply.Goals as goal

pub returns-in-Ok-Replied-clause-tells : goal.returns-in-Ok-Replied-clause-tells
returns-in-Ok-Replied-clause-tells c =
    tells (members_view c.args.members.now.entries) c.in_ok-text.field-0 c.in-Some.text c.as_bytes.result.now
    c.in-Some.is c.as_bytes.ensures.value c.in_ok-text.ensures c.requires c.in-Ok-Replied.key
    c.in-Ok-Replied.reply
    (subst (IsAnswerBody c.as_bytes.result.now) c.in-Ok-Replied.field-0-is c.in-Ok-Replied.ensures.found)

pub returns-in-Ok-Welcome-clause-flaw : goal.returns-in-Ok-Welcome-clause-flaw
returns-in-Ok-Welcome-clause-flaw c flaw is =
    tells_other (members_view c.args.members.now.entries) c.in_ok-text.field-0 c.in-Some.text
    c.as_bytes.result.now
    c.in-Some.is c.as_bytes.ensures.value c.in_ok-text.ensures _ c.in-Ok-Welcome.ensures.found
    (λ key reply same. let no : ⊥ = cc in no)

pub returns-in-Ok-Waiting-clause-flaw : goal.returns-in-Ok-Waiting-clause-flaw
returns-in-Ok-Waiting-clause-flaw c flaw is =
    tells_other (members_view c.args.members.now.entries) c.in_ok-text.field-0 c.in-Some.text
    c.as_bytes.result.now
    c.in-Some.is c.as_bytes.ensures.value c.in_ok-text.ensures _ c.in-Ok-Waiting.ensures.found
    (λ key reply same. let no : ⊥ = cc in no)

pub returns-in-Ok-Refused-clause-flaw : goal.returns-in-Ok-Refused-clause-flaw
returns-in-Ok-Refused-clause-flaw c flaw is =
    tells_other (members_view c.args.members.now.entries) c.in_ok-text.field-0 c.in-Some.text
    c.as_bytes.result.now
    c.in-Some.is c.as_bytes.ensures.value c.in_ok-text.ensures _ c.in-Ok-Refused.ensures.found
    (λ key reply same. let no : ⊥ = cc in no)

pub returns-in-Err-NotJson-clause-flaw : goal.returns-in-Err-NotJson-clause-flaw
returns-in-Err-NotJson-clause-flaw c flaw is =
    tells_json (members_view c.args.members.now.entries) c.in_ok-text.field-0 c.in-Some.text
    c.as_bytes.result.now
    c.in-Some.is c.as_bytes.ensures.value c.in_ok-text.ensures
    (c.decode_answer.ensures.not_json (c.in-Err-NotJson.is ∙ ap Err c.in-Err-NotJson.field-0-is)).1

pub returns-in-Err-NotMessage-clause-flaw : goal.returns-in-Err-NotMessage-clause-flaw
returns-in-Err-NotMessage-clause-flaw c flaw is key reply tells =
    c.decode_answer.ensures.not_message (c.in-Err-NotMessage.is ∙ ap Err c.in-Err-NotMessage.field-0-is)
    (Replied key reply)
    (told_body (members_view c.args.members.now.entries) c.in_ok-text.field-0 c.in-Some.text
    c.as_bytes.result.now c.in-Some.is c.as_bytes.ensures.value c.in_ok-text.ensures key reply tells)
