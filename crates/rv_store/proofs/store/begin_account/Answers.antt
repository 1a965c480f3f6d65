-- An epoch that isn't greater is told as it is by the folder.
use Rattle.std.proofs.Common.{Err, Ok, Result, ap}
use Rattle.std.proofs.lemmas.Result.{err_from_is_err_and}
use Rattle.rv_journal.specs.declared.folders.beginning.BeginFault.{BeginFault}
use Rattle.rv_journal.specs.declared.folders.beginning.BeginFault.TheVariants as OfBegin
use Rattle.rv_store.proofs.store.begin_account.Goals as goal

abbrev told_by : {T : Type 0} → Result T BeginFault → BeginFault
told_by (Err fault) = fault
told_by (Ok value) = OfBegin.NotGreater 0

pub returns-in_err-journal-clause-not_greater : goal.returns-in_err-journal-clause-not_greater
returns-in_err-journal-clause-not_greater g c =
    let exit = err_from_is_err_and c.from_residual.result c.from_residual.ensures.1 in
    rw (exit.1, exit.2) (λ other is. c.in_err-journal.ensures.not_greater other (ap Err (ap told_by is)))
