-- The command is one of which clap tells each fault, and its matches.
use Rattle.std.proofs.Common.{◌≡◌, ◌∙◌, [], ap, refl, subst, true}
use Rattle.clap.proofs.OnLiterals.{clap_on_literals}
use Rattle.clap.specs.Walk.{texts}
use Rattle.std.proofs.lemmas.Result.{err_from_is_err_and}
use Rattle.clap.specs.Words.{App, HasKind, HasMatchesOf, fault_of, is_simple, is_simple_and_free}
use Rattle.rv_words.specs.options.Faults.{IsFault}
use Rattle.rv_words.specs.options.Words.{host_app}
use Rattle.rv_words.proofs.OfOptions.Refusals.{fails_by, refused_as}
use Rattle.rv_words.proofs.options.matches_of.Goals as goal

simple_and_free : is_simple_and_free host_app ≡ true
unfolding clap_on_literals
simple_and_free = refl

simple : is_simple host_app ≡ true
unfolding clap_on_literals
simple = refl

pub returns-clause-taken : goal.returns-clause-taken
returns-clause-taken c =
    let app = c.in_ok-command.ensures.app in
    subst (λ (a : App). fault_of a (texts c.args.words.now) ≡ []) app
    (c.in_ok-try_get_matches_from.ensures.kinds (ap is_simple_and_free app ∙ simple_and_free))

pub returns-clause-found : goal.returns-clause-found
returns-clause-found c =
    let found = subst (λ (a : App). HasMatchesOf a (texts c.args.words.now)
    c.in_ok-try_get_matches_from.field-0) c.in_ok-command.ensures.app
    c.in_ok-try_get_matches_from.ensures.matches in
    (found simple).0

pub returns-in_err-try_get_matches_from-clause-fault : goal.returns-in_err-try_get_matches_from-clause-fault
returns-in_err-try_get_matches_from-clause-fault c =
    let app = c.in_ok-command.ensures.app in
    let error = c.in_err-try_get_matches_from.field-0.0 in
    let back = c.from_residual-in_err-try_get_matches_from in
    let exit = err_from_is_err_and back.result back.ensures.1 in
    let kinds = c.in_err-try_get_matches_from.ensures.kinds (ap is_simple_and_free app ∙ simple_and_free) in
    let known = subst (λ (a : App). HasKind (fault_of a (texts c.args.words.now)) error) app kinds in
    fails_by (IsFault (texts c.args.words.now)) back.result exit.0 exit.1
    (refused_as (texts c.args.words.now) error exit.0 exit.2 known)
