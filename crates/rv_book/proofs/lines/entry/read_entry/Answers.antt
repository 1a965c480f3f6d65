-- A line is bad where it has no fields, and where its last one says no act.
use Rattle.std.proofs.Common.{◌≡◌, List, ℕ, None, Err, ap, arith, sym, subst, ◌∙◌}
use Rattle.std.proofs.lemmas.Result.{err_from_is_err_and}
use Rattle.rv_book.specs.declared.lines.fault.LineFault.TheVariants as line
use Rattle.rv_book.specs.lines.Reading.{SaysAct, SaysPartnersUpTo}
use Rattle.rv_book.proofs.OfLines.Fields.{cuts_one}
use Rattle.rv_book.proofs.lines.entry.read_entry.Goals as goal

pub returns-in_err-moment-clause-bad : goal.returns-in_err-moment-clause-bad
returns-in_err-moment-clause-bad c bad e reads =
    let none : c.cut_fields.result ≡ None = grind arith in
    c.cut_fields.ensures.none none e.moment reads.fields.partners_field reads.act_field reads.fields.cut

pub returns-in_err-partners-clause-bad : goal.returns-in_err-partners-clause-bad
returns-in_err-partners-clause-bad c told e reads =
    let exit = err_from_is_err_and c.from_residual-in_err-partners.result
    c.from_residual-in_err-partners.ensures.1 in
    let bad : c.in_err-partners.field-0.0 ≡ line.Bad = sym exit.2 ∙ cc in
    let found = rw c.in_ok-moment.ensures.ok_part at c.cut_fields.ensures.some in
    let same : reads.fields.partners_field ≡ c.in_ok-moment.places.now = (cuts_one reads.fields.cut found).1
    in
    c.in_err-partners.ensures.bad (ap Err bad) e.partners
    (subst (λ (f : List ℕ). SaysPartnersUpTo c.args.greatest_place f e.partners)
    same reads.fields.says_partners)

pub returns-in_err-act-clause-bad : goal.returns-in_err-act-clause-bad
returns-in_err-act-clause-bad c told e reads =
    let exit = err_from_is_err_and c.from_residual-in_err-act.result c.from_residual-in_err-act.ensures.1 in
    let bad : c.in_err-act.field-0.0 ≡ line.Bad = sym exit.2 ∙ cc in
    let found = rw c.in_ok-moment.ensures.ok_part at c.cut_fields.ensures.some in
    let same : reads.act_field ≡ c.in_ok-moment.field.now = (cuts_one reads.fields.cut found).2 in
    c.in_err-act.ensures.bad (ap Err bad) e.act (subst (λ (f : List ℕ). SaysAct f e.act) same reads.says_act)
