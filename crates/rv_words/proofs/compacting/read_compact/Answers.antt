-- The words from `compact` on are the same, however they are named.
use Rattle.std.proofs.Common.{◌∷◌, ◌∙◌, [], Err, List, Ok, Result, ap, subst, sym}
use Rattle.std.proofs.lemmas.Result.{err_from_is_err_and}
use Rattle.std.specs.Prelude.{codes}
use Rattle.clap.specs.Words.{Text}
use Rattle.rv_words.specs.Compacting.{SaysFolder}
use Rattle.rv_words.specs.declared.fault.CommandFault.{CommandFault}
use Rattle.rv_words.specs.declared.fault.CommandFault.TheVariants.{Bad}
use Rattle.rv_words.proofs.compacting.read_compact.Goals as goal

abbrev after_two : List Text → List Text
after_two [] = []
after_two (x ∷ []) = []
after_two (x ∷ y ∷ rest) = rest

abbrev told_by : {T : Type 0} → Result T CommandFault → CommandFault
told_by (Err why) = why
told_by (Ok value) = Bad

pub returns-in_err-folder_in-in-Some-clause-bad : goal.returns-in_err-folder_in-in-Some-clause-bad
returns-in_err-folder_in-in-Some-clause-bad c =
    let exit = err_from_is_err_and c.from_residual.result c.from_residual.ensures.1 in
    let own = c.in-Some.ensures.some in
    rw (exit.1, exit.2) (λ bad folder named. c.in_err-folder_in-in-Some.ensures.bad (ap Err (ap told_by bad))
    folder
    (subst (λ (l : List Text). SaysFolder l folder)
    (ap (λ (l : List Text). codes "compact" ∷ l) (ap after_two (sym named.words_are ∙ own.2)) ∙ sym own.3)
    named.own))
