use Rattle.std.proofs.Common.{◌≡◌, ◌<◌, ◌+◌, ◌++◌, Bool, false, List, ℕ, length, refl, sym, ◌∙◌, ap, subst}
use Rattle.std.proofs.Common.{arith}
use Rattle.std.specs.Prelude.{◌==◌}
use Rattle.std.proofs.lemmas.Bool.Decides.{nat_tests}
use Rattle.std.proofs.lemmas.Result.{err_from_is_err_and}
use Rattle.rv_journal.specs.Text.{IsLines}
use Rattle.rv_journal.proofs.Lines.{lines_end}
use Rattle.rv_journal.proofs.Causes.{cut_well, lines_were_refused, memory_was_refused}
use Rattle.rv_journal.proofs.Cutting.{lines_refused, lines_taken}
use Rattle.rv_journal.proofs.cutter.LineCutter.take_lines.Goals as goal

some : (n : ℕ) (none : Bool) → none ≡ (n == 0) → none ≡ false → 0 < n
some n none is other = grind (arith, nat_tests)

pub take-requires : goal.take-requires
take-requires g c = subst (λ (l : List ℕ). IsLines l)
    (sym (c.deref.ensures.value ∙ c.in_ok-extend_from_slice.ensures.items))
    (lines_end c.args.self.now.rest.items c.args.lines.now c.requires.lines
    (some (length c.args.lines.now) c.is_empty.result c.is_empty.ensures c.if-is_empty.false))

pub returns-in-Err-clause-refused : goal.returns-in-Err-clause-refused
returns-in-Err-clause-refused g c first front had =
    lines_refused g.R.JournalReader.takes first front c.args.self.now c.args.reader.now had c.requires.going
    c.args.lines.now c.requires.lines c.requires.text
    (some (length c.args.lines.now) c.is_empty.result c.is_empty.ensures c.if-is_empty.false)
    g.R.JournalReader.refuses g.met.R.JournalReader.refused_on c.in-Err.why
    (subst (λ (l : List ℕ). g.R.JournalReader.refuses c.args.reader.now l c.in-Err.why)
    {y = c.args.self.now.rest.items ++ c.args.lines.now} (c.deref.ensures.value
    ∙ c.in_ok-extend_from_slice.ensures.items) c.in-Err.ensures.refused)

pub returns-clause-taken : goal.returns-clause-taken
returns-clause-taken g c first front had =
    let is = c.deref.ensures.value ∙ c.in_ok-extend_from_slice.ensures.items in
    lines_taken g.R.JournalReader.takes first front c.args.self.now c.args.reader.now had c.requires.going
    c.args.lines.now c.requires.lines c.requires.text
    (some (length c.args.lines.now) c.is_empty.result c.is_empty.ensures c.if-is_empty.false)
    g.met.R.JournalReader.joined c.take.new.self
    (subst (λ (l : List ℕ). g.R.JournalReader.takes c.args.reader.now l c.take.new.self)
    {y = c.args.self.now.rest.items ++ c.args.lines.now} is
    c.in_default.ensures.taken)
    _ (ap (λ (n : ℕ). c.args.self.now.end + n) {y = length (c.args.self.now.rest.items ++ c.args.lines.now)}
    (c.len.ensures ∙ sym c.deref.ensures.len ∙ ap length {y = c.args.self.now.rest.items ++ c.args.lines.now}
    is))
    c.clear.ensures.items refl

pub returns-then-is_empty-clause-fault : goal.returns-then-is_empty-clause-fault
returns-then-is_empty-clause-fault g c = cut_well _

pub returns-in_err-extend_from_slice-clause-fault : goal.returns-in_err-extend_from_slice-clause-fault
returns-in_err-extend_from_slice-clause-fault g c =
    let exit = err_from_is_err_and c.from_residual.result c.from_residual.ensures.1 in
    rw (exit.1, exit.2) (memory_was_refused)

pub returns-in-Err-clause-fault : goal.returns-in-Err-clause-fault
returns-in-Err-clause-fault g c = lines_were_refused _

pub returns-clause-fault : goal.returns-clause-fault
returns-clause-fault g c = cut_well _
