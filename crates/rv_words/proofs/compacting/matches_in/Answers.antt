-- The command is one of which clap tells each fault.
use Rattle.std.proofs.Common.{◌≡◌, ◌∙◌, [], IfOk, ap, refl, subst, true}
use Rattle.std.proofs.lemmas.Result.{IfOk-weaker}
use Rattle.clap.proofs.OnLiterals.{clap_on_literals}
use Rattle.clap.specs.Walk.{texts}
use Rattle.clap.specs.Words.{App, HasMatchesOf, fault_of, is_simple, is_simple_and_free}
use Rattle.rv_words.specs.Compacting.{compact_app}
use Rattle.rv_words.proofs.compacting.matches_in.Goals as goal

simple_and_free : is_simple_and_free compact_app ≡ true
unfolding clap_on_literals
simple_and_free = refl

simple : is_simple compact_app ≡ true
unfolding clap_on_literals
simple = refl

pub taken-requires : goal.taken-requires
taken-requires c = ap is_simple_and_free c.in_ok-listed_command.ensures.app ∙ simple_and_free

pub returns-clause-taken : goal.returns-clause-taken
returns-clause-taken c = subst (λ (a : App). IfOk c.taken.result (λ _. fault_of a (texts c.args.own.now) ≡
    []))
    c.in_ok-listed_command.ensures.app c.taken.ensures.taken

pub returns-clause-found : goal.returns-clause-found
returns-clause-found c = IfOk-weaker c.taken.result _ _ (λ m has. (has simple).0)
    (subst (λ (a : App). IfOk c.taken.result (HasMatchesOf a (texts c.args.own.now)))
    c.in_ok-listed_command.ensures.app
    c.taken.ensures.found)

pub returns-clause-bad : goal.returns-clause-bad
returns-clause-bad c bad none =
    c.taken.ensures.bad bad (ap (λ (a : App). fault_of a (texts c.args.own.now))
    c.in_ok-listed_command.ensures.app
    ∙ none)
