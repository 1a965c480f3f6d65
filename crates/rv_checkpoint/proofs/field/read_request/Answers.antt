-- What is no message's body is no request's.
use Rattle.std.proofs.Common.{◌≡◌, ◌∙◌, refl, sym}
use Rattle.std.proofs.lemmas.Result.{err_from_is_err_and}
use Rattle.rv_book.specs.declared.lines.fault.LineFault.TheVariants as line
use Rattle.rv_book.specs.lines.Faults.{line_fault}
use Rattle.rv_text.specs.declared.message.Message.TheVariants.{Request}
use Rattle.rv_checkpoint.proofs.Decoded.{no_body}
use Rattle.rv_checkpoint.proofs.field.read_request.Goals as goal

pub returns-in_err-message-clause-bad : goal.returns-in_err-message-clause-bad
returns-in_err-message-clause-bad c told key call asks =
    let exit = err_from_is_err_and c.from_residual.result c.from_residual.ensures.1 in
    let bad : line_fault c.in_err-message.field-0.0 ≡ line.Bad = sym exit.2 ∙ cc in
    no_body _ _ c.in_err-message.ensures refl bad (Request key call) asks.says
