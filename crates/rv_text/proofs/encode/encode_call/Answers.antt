-- The text is that of the call's row, and where the call fits it is short.
use Rattle.std.proofs.Common.{◌≡◌, string_bytes, ◌∙◌}
use Rattle.std.proofs.lemmas.Result.{IfOk-weaker}
use Rattle.serde_json.specs.Data.{no_members}
use Rattle.rv_json.specs.Writing.{text_with}
use Rattle.rv_text.specs.Bodies.{call_text}
use Rattle.rv_text.specs.Members.{members_of}
use Rattle.rv_text.specs.Rows.{call_row}
use Rattle.rv_text.proofs.ByKind.{each_within}
use Rattle.rv_text.proofs.Fitting.{short_text, shorter_text}
use Rattle.rv_text.proofs.Sound.{call_sound}
use Rattle.rv_text.proofs.encode.encode_call.Goals as goal

pub returns-clause-text : goal.returns-clause-text
returns-clause-text c =
    let row = call_row c.args.call.now in
    IfOk-weaker c.finish.result (λ s. string_bytes s ≡ text_with no_members c.put_call.new.body)
    (λ s. string_bytes s ≡ call_text c.args.call.now)
    (λ s is. is ∙ (c.in_ok-put_call.ensures ∙ c.in_ok-body.ensures (members_of row))) c.finish.ensures

pub returns-clause-short : goal.returns-clause-short
returns-clause-short c fits =
    let row = call_row c.args.call.now in
    short_text row (call_sound c.args.call.now) (each_within row fits.0) c.finish.result
    (returns-clause-text c)

pub returns-clause-shorter : goal.returns-clause-shorter
returns-clause-shorter c fits =
    let row = call_row c.args.call.now in
    shorter_text row (call_sound c.args.call.now) (each_within row fits.0) c.finish.result
    (returns-clause-text c)
