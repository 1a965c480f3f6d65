-- What is no answer's body is no reply's, and bytes are the body of one reply.
use Rattle.std.proofs.Common.{◌≡◌, ◌∙◌, refl, sym}
use Rattle.std.proofs.lemmas.Result.{err_from_is_err_and}
use Rattle.rv_book.specs.declared.lines.fault.LineFault.TheVariants as line
use Rattle.rv_book.specs.lines.Faults.{line_fault}
use Rattle.rv_text.specs.declared.answer.Answer.TheVariants.{Replied}
use Rattle.rv_checkpoint.proofs.Decoded.{no_body}
use Rattle.rv_checkpoint.proofs.field.read_reply.Goals as goal

pub returns-in_err-answer-clause-bad : goal.returns-in_err-answer-clause-bad
returns-in_err-answer-clause-bad c told key reply says =
    let exit = err_from_is_err_and c.from_residual.result c.from_residual.ensures.1 in
    let bad : line_fault c.in_err-answer.field-0.0 ≡ line.Bad = sym exit.2 ∙ cc in
    no_body _ _ c.in_err-answer.ensures refl bad (Replied key reply) says.says
