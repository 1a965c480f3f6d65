-- The text is that of the reply's row, and where the reply fits it is short.
use Rattle.std.proofs.Common.{◌≡◌, string_bytes, ◌∙◌}
use Rattle.std.proofs.lemmas.Result.{IfOk-weaker}
use Rattle.serde_json.specs.Data.{no_members}
use Rattle.rv_json.specs.Writing.{text_with}
use Rattle.rv_text.specs.declared.answer.Answer.TheVariants.{Replied}
use Rattle.rv_text.specs.Bodies.{answer_text}
use Rattle.rv_text.specs.Members.{members_of}
use Rattle.rv_text.specs.Rows.{answer_row}
use Rattle.rv_text.proofs.Fitting.{short_text, shorter_text}
use Rattle.rv_text.proofs.Sound.{answer_sound, answer_within}
use Rattle.rv_text.proofs.encode.encode_reply_in.Goals as goal

pub returns-clause-text : goal.returns-clause-text
returns-clause-text c =
    let row = answer_row (Replied c.args.key.now c.args.reply.now) in
    IfOk-weaker c.finish.result (λ s. string_bytes s ≡ text_with no_members c.put_reply.new.body)
    (λ s. string_bytes s ≡ answer_text (Replied c.args.key.now c.args.reply.now))
    (λ s is. is ∙ (c.in_ok-put_reply.ensures ∙ c.in_ok-body.ensures (members_of row))) c.finish.ensures

pub returns-clause-short : goal.returns-clause-short
returns-clause-short c fits =
    let answer = Replied c.args.key.now c.args.reply.now in
    short_text (answer_row answer) (answer_sound answer) (answer_within answer fits) c.finish.result
    (returns-clause-text c)

pub returns-clause-shorter : goal.returns-clause-shorter
returns-clause-shorter c fits =
    let answer = Replied c.args.key.now c.args.reply.now in
    shorter_text (answer_row answer) (answer_sound answer) (answer_within answer fits) c.finish.result
    (returns-clause-text c)
