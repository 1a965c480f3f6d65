-- The program is one of which clap tells each fault, and what it says is one of them.
use Rattle.std.proofs.Common.{◌≡◌, ◌∙◌, [], ap, refl, subst, true}
use Rattle.clap.proofs.OnLiterals.{clap_on_literals}
use Rattle.clap.specs.Walk.{texts}
use Rattle.clap.specs.Words.{App, HasKind, fault_of, is_simple_and_free}
use Rattle.rv_words.specs.Helping.{help_app}
use Rattle.rv_words.proofs.Helps.{is_among}
use Rattle.rv_words.proofs.helping.answer.Goals as goal

simple_and_free : is_simple_and_free help_app ≡ true
unfolding clap_on_literals
simple_and_free = refl

pub refusal_of-requires : goal.refusal_of-requires
refusal_of-requires c = ap is_simple_and_free c.in_ok-command.ensures ∙ simple_and_free

pub returns-in-None-clause-bad : goal.returns-in-None-clause-bad
returns-in-None-clause-bad c _ =
    subst (λ (a : App). fault_of a (texts c.args.words.now) ≡ []) c.in_ok-command.ensures
    (c.refusal_of.ensures.none c.in-None.is)

pub returns-in_default : goal.returns-in_default
returns-in_default c =
    let known = subst (λ (a : App). HasKind (fault_of a (texts c.args.words.now)) c.in-Some.error)
    c.in_ok-command.ensures c.in-Some.ensures.some in
    record {
      answered = is_among (fault_of help_app (texts c.args.words.now)) c.in-Some.error known
          (λ out. c.in_default.not-OutOfMemory (c.kind.ensures ∙ out));
      bad = λ told. absurd (cc);
    }
