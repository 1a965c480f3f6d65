-- A body that isn't a message.
use Rattle.std.proofs.Common.{◌∙◌, Err, ap}
use Rattle.rv_server.proofs.locked.asking.read_body.Goals as goal

pub returns-in-Err-NotJson-clause-told : goal.returns-in-Err-NotJson-clause-told
returns-in-Err-NotJson-clause-told c message is =
    (c.decode_message.ensures.not_json (c.in-Err-NotJson.is ∙ ap Err c.in-Err-NotJson.field-0-is)).1 _ is.1

pub returns-in-Err-NotMessage-clause-told : goal.returns-in-Err-NotMessage-clause-told
returns-in-Err-NotMessage-clause-told c =
    c.decode_message.ensures.not_message (c.in-Err-NotMessage.is ∙ ap Err c.in-Err-NotMessage.field-0-is)
