-- Each line moves the reading on, and the first that is read as none more stops it.
use Rattle.std.proofs.Common.{◌≡◌, ℕ, List, Err, ap, arith, length, subst, sym, ◌∙◌}
use Rattle.std.proofs.lemmas.Result.{err_from_is_err_and}
use Rattle.rv_account.specs.declared.entry.Entry.{Entry}
use Rattle.rv_book.specs.declared.lines.fault.AccountFault.TheVariants.{BadLine}
use Rattle.rv_book.specs.lines.Entries.{IsNoNext}
use Rattle.rv_book.specs.lines.Reading.{account_limits}
use Rattle.rv_book.proofs.OfLines.Turns.{Read, read_more, so_many, stops_at}
use Rattle.rv_book.proofs.lines.account.read_entries.Goals as goal

pub next_entry-requires : goal.next_entry-requires
next_entry-requires c = omega (arith, so_many c.loop-line.invariant)

pub returns-in_err-entry-clause-bad : goal.returns-in_err-entry-clause-bad
returns-in_err-entry-clause-bad c n told =
    let exit = err_from_is_err_and c.from_residual.result c.from_residual.ensures.1 in
    let is : c.in_err-entry.field-0.0 ≡ BadLine n = sym exit.2 ∙ cc in
    let many : c.len.result ≡ length c.loop-line.entries.items = omega arith in
    let line = c.in-Some.line.now in
    stops_at c.loop-line.invariant line c.in-Some.after.now n c.in-Some.ensures.some
    (subst (λ (k : ℕ). IsNoNext account_limits k line) many (c.in_err-entry.ensures.bad n (ap Err is)))
    (omega (arith, many, c.in_err-entry.ensures.counted n (ap Err is)))

pub loop-line-preserved : goal.loop-line-preserved
loop-line-preserved c =
    let room = c.in_ok-entry.ensures.room in
    subst (λ (es : List Entry). Read account_limits c.args.input.now c.in-Some.after.now es)
    (sym c.in_ok-keep.ensures)
    (read_more c.loop-line.invariant c.in-Some.line.now c.in-Some.after.now c.in_ok-entry.entry
    c.in-Some.ensures.some c.in_ok-entry.ensures.entry (omega (arith, room)))
