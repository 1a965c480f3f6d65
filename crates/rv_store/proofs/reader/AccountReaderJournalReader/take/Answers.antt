-- The lines are the account's once the first one has begun.
use Rattle.std.proofs.Common.{ap, subst, sym}
use Rattle.std.proofs.lemmas.Result.{err_from_is_err_and}
use Rattle.rv_store.specs.Reading.{HasReadJournal, ReadsWholeOn, RefusesWholeOn}
use Rattle.rv_store.specs.declared.reader.ReaderParts.{ReaderParts}
use Rattle.rv_store.proofs.Begun.{reads_part, refuses_part}
use Rattle.rv_store.proofs.reader.AccountReaderJournalReader.take.Goals as goal

pub returns-in_err-parts-clause-refused : goal.returns-in_err-parts-clause-refused
returns-in_err-parts-clause-refused c =
    let exit = err_from_is_err_and c.from_residual-in_err-parts.result c.from_residual-in_err-parts.ensures.1
    in
    let parts = c.self.inside.parts in
    rw (exit.1, exit.2) (λ before is has. refuses_part before c.args.lines.now c.in_ok-account.account.now is
    parts.audit parts.records parts.begun c.in_err-parts.field-0.0 c.in_ok-account.ensures.later
    c.in_ok-account.ensures.first
    (subst (λ audit. RefusesWholeOn audit parts.records c.in_ok-account.account.now c.in_err-parts.field-0.0)
    c.replace-audit.ensures.value c.in_err-parts.ensures.refused)
    (subst (λ (p : ReaderParts). HasReadJournal before p) (sym c.self.view_is) has))

pub returns-clause-taken : goal.returns-clause-taken
returns-clause-taken c =
    let parts = c.self.inside.parts in (
      ap (λ (p : ReaderParts). p.epoch) c.self.view_is,
      λ before is has. reads_part before c.args.lines.now c.in_ok-account.account.now is parts.audit
          parts.records parts.begun
          c.in_ok-parts.field-0 c.read_lines_on.new.records c.in_ok-account.ensures.later
          c.in_ok-account.ensures.first
          (subst (λ audit. ReadsWholeOn audit parts.records c.in_ok-account.account.now c.in_ok-parts.field-0
          c.read_lines_on.new.records) c.replace-audit.ensures.value c.in_ok-parts.ensures.read)
          (subst (λ (p : ReaderParts). HasReadJournal before p) (sym c.self.view_is) has),
    )
