-- A field is bad where it is no message's body and not `tick`.
use Rattle.std.proofs.Common.{◌≡◌, sym, ◌∙◌}
use Rattle.std.proofs.lemmas.Bool.{false≢true}
use Rattle.std.proofs.lemmas.Result.{err_from_is_err_and}
use Rattle.rv_book.specs.lines.Faults.{line_fault}
use Rattle.rv_book.specs.lines.Written.{message_in}
use Rattle.rv_book.specs.declared.lines.fault.LineFault.TheVariants as line
use Rattle.rv_book.proofs.OfLines.Entering.{no_body, says_none}
use Rattle.rv_book.proofs.lines.entry.read_act.Goals as goal

pub returns-in_err-message-clause-bad : goal.returns-in_err-message-clause-bad
returns-in_err-message-clause-bad c told act =
    let fault = c.in_err-message.field-0.0 in
    let exit = err_from_is_err_and c.from_residual.result c.from_residual.ensures.1 in
    let bad : line_fault fault ≡ line.Bad = sym exit.2 ∙ cc in
    says_none c.args.field.now (message_in act) (λ same. false≢true (sym c.if-is_text.false
    ∙ c.is_text.ensures.1 same))
    (no_body c.args.field.now c.decode_message.result fault c.decode_message.ensures c.in_err-message.was bad)
