-- A field is bad where it is not `-` and no list of places.
use Rattle.std.proofs.Common.{◌≡◌, Err, ap, sym, ◌∙◌}
use Rattle.std.proofs.lemmas.Bool.{false≢true}
use Rattle.std.proofs.lemmas.Result.{err_from_is_err_and}
use Rattle.rv_book.specs.declared.lines.fault.LineFault.TheVariants as line
use Rattle.rv_book.proofs.OfLines.Commas.{says_no_partners}
use Rattle.rv_book.proofs.lines.entry.read_partners.Goals as goal

pub returns-in_err-places-clause-bad : goal.returns-in_err-places-clause-bad
returns-in_err-places-clause-bad c told partners =
    let exit = err_from_is_err_and c.from_residual.result c.from_residual.ensures.1 in
    let bad : c.in_err-places.field-0.0 ≡ line.Bad = sym exit.2 ∙ cc in
    says_no_partners c.args.greatest_place c.args.field.now partners
    (λ same. false≢true (sym c.if-is_text.false
    ∙ c.is_text.ensures.1 same)) (c.in_err-places.ensures.bad (ap Err bad))
