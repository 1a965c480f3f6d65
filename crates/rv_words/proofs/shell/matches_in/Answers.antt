-- The command is one of which clap tells each fault, and its matches.
use Rattle.std.proofs.Common.{◌≡◌, ◌∙◌, [], ap, subst}
use Rattle.std.proofs.lemmas.Result.{err_from_is_err_and}
use Rattle.clap.specs.Simple.{app_of_fields}
use Rattle.clap.specs.Walk.{texts}
use Rattle.clap.specs.Words.{App, HasKind, HasMatchesOf, fault_of, is_simple_and_free}
use Rattle.rv_words.specs.shell.Faults.{IsShellFault}
use Rattle.rv_words.proofs.OfOptions.Refusals.{fails_by}
use Rattle.rv_words.proofs.OfShell.{refused_as, simple, simple_and_free}
use Rattle.rv_words.proofs.shell.matches_in.Goals as goal

pub returns-clause-taken : goal.returns-clause-taken
returns-clause-taken c =
    let app = ap app_of_fields c.in_ok-command.ensures.0 ∙ c.in_ok-listed_command.ensures.app
    ∙ c.listed.ensures in
    subst (λ (a : App). fault_of a (texts c.args.own.now) ≡ []) app
    (c.in_ok-try_get_matches_from.ensures.kinds (ap is_simple_and_free app ∙ simple_and_free c.args.word))

pub returns-clause-found : goal.returns-clause-found
returns-clause-found c =
    let app = ap app_of_fields c.in_ok-command.ensures.0 ∙ c.in_ok-listed_command.ensures.app
    ∙ c.listed.ensures in
    let found = subst (λ (a : App). HasMatchesOf a (texts c.args.own.now)
    c.in_ok-try_get_matches_from.field-0) app c.in_ok-try_get_matches_from.ensures.matches in
    (found (simple c.args.word)).0

pub returns-in_err-try_get_matches_from-clause-fault : goal.returns-in_err-try_get_matches_from-clause-fault
returns-in_err-try_get_matches_from-clause-fault c =
    let app = ap app_of_fields c.in_ok-command.ensures.0 ∙ c.in_ok-listed_command.ensures.app
    ∙ c.listed.ensures in
    let error = c.in_err-try_get_matches_from.field-0.0 in
    let back = c.from_residual-in_err-try_get_matches_from in
    let exit = err_from_is_err_and back.result back.ensures.1 in
    let kinds = c.in_err-try_get_matches_from.ensures.kinds (ap is_simple_and_free app ∙ simple_and_free
    c.args.word) in
    let known = subst (λ (a : App). HasKind (fault_of a (texts c.args.own.now)) error) app kinds in
    fails_by (IsShellFault c.args.word (texts c.args.own.now)) back.result exit.0 exit.1
    (refused_as c.args.word (texts c.args.own.now) error exit.0 exit.2 known)
