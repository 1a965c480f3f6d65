-- The text is that of the answer's row, and where the answer fits it is short.
use Rattle.std.proofs.Common.{◌≡◌, string_bytes, ◌∙◌}
use Rattle.std.proofs.lemmas.Result.{IfOk-weaker}
use Rattle.serde_json.specs.Data.{no_members}
use Rattle.rv_json.specs.Writing.{text_with}
use Rattle.rv_text.specs.Bodies.{answer_text}
use Rattle.rv_text.specs.Members.{members_of}
use Rattle.rv_text.specs.Rows.{answer_row}
use Rattle.rv_text.proofs.Fitting.{short_text, shorter_text}
use Rattle.rv_text.proofs.Sound.{answer_sound, answer_within}
use Rattle.rv_text.proofs.encode.write_answer.Goals as goal

pub returns-clause-text : goal.returns-clause-text
returns-clause-text c =
    let row = answer_row c.args.answer.now in
    IfOk-weaker c.finish.result (λ s. string_bytes s ≡ text_with no_members c.put_answer.new.body)
    (λ s. string_bytes s ≡ answer_text c.args.answer.now)
    (λ s is. is ∙ (c.in_ok-put_answer.ensures ∙ c.requires (members_of row))) c.finish.ensures

pub returns-clause-short : goal.returns-clause-short
returns-clause-short c fits =
    let answer = c.args.answer.now in
    short_text (answer_row answer) (answer_sound answer) (answer_within answer fits) c.finish.result
    (returns-clause-text c)

pub returns-clause-shorter : goal.returns-clause-shorter
returns-clause-shorter c fits =
    let answer = c.args.answer.now in
    shorter_text (answer_row answer) (answer_sound answer) (answer_within answer fits) c.finish.result
    (returns-clause-text c)
