-- The text is that of the request's row, and where the request fits it is short.
use Rattle.std.proofs.Common.{◌≡◌, string_bytes, ◌∙◌}
use Rattle.std.proofs.lemmas.Result.{IfOk-weaker}
use Rattle.serde_json.specs.Data.{no_members}
use Rattle.rv_json.specs.Writing.{text_with}
use Rattle.rv_text.specs.declared.message.Message.TheVariants.{Request}
use Rattle.rv_text.specs.Bodies.{message_text}
use Rattle.rv_text.specs.Members.{members_of}
use Rattle.rv_text.specs.Rows.{message_row}
use Rattle.rv_text.proofs.Fitting.{short_text, shorter_text}
use Rattle.rv_text.proofs.Sound.{message_sound, message_within}
use Rattle.rv_text.proofs.encode.encode_request.Goals as goal

pub returns-clause-text : goal.returns-clause-text
returns-clause-text c =
    let row = message_row (Request c.args.key.now c.args.call.now) in
    IfOk-weaker c.finish.result (λ s. string_bytes s ≡ text_with no_members c.put_request.new.body)
    (λ s. string_bytes s ≡ message_text (Request c.args.key.now c.args.call.now))
    (λ s is. is ∙ (c.in_ok-put_request.ensures ∙ c.in_ok-body.ensures (members_of row))) c.finish.ensures

pub returns-clause-short : goal.returns-clause-short
returns-clause-short c fits =
    let message = Request c.args.key.now c.args.call.now in
    short_text (message_row message) (message_sound message) (message_within message fits) c.finish.result
    (returns-clause-text c)

pub returns-clause-shorter : goal.returns-clause-shorter
returns-clause-shorter c fits =
    let message = Request c.args.key.now c.args.call.now in
    shorter_text (message_row message) (message_sound message) (message_within message fits) c.finish.result
    (returns-clause-text c)
