-- Where no span is read, what is given is none.
use Rattle.std.proofs.Common.{◌∙◌, ap, subst, sym}
use Rattle.clap.specs.Words.{Text, first_of, found_of, rows_of}
use Rattle.rv_words.specs.shell.Faults.{IsFaultIn}
use Rattle.rv_words.specs.declared.shell.fault.ShellFault.{ShellFault}
use Rattle.rv_words.proofs.shell.wait_of.Goals as goal

pub returns-in-None-clause-fault : goal.returns-in-None-clause-fault
returns-in-None-clause-fault c =
    let rows = rows_of (found_of c.args.given.now) in
    let row = ap (λ (w : Text). first_of w rows) (sym c.word.ensures) ∙ sym c.in-Some.ensures in
    subst (λ (f : ShellFault). IsFaultIn c.args.word rows f) (sym c.outside.ensures)
    (row, c.read_duration.ensures.none c.in-None.is)
