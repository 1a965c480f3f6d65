-- The words from the command on are those after the name.
use Rattle.std.proofs.Common.{◌≡◌, [], List, subst}
use Rattle.clap.specs.Words.{Text, fault_of, matches_of}
use Rattle.rv_words.specs.shell.Calls.{SaysShell}
use Rattle.rv_words.specs.shell.Words.{shell_app}
use Rattle.rv_words.proofs.shell.read_shell.Goals as goal

pub returns-in_ok-said-in-Some-clause-named : goal.returns-in_ok-said-in-Some-clause-named
returns-in_ok-said-in-Some-clause-named c =
    let some = c.in-Some.ensures.some in
    let word = c.in-Some.word in
    let said = c.in_ok-said-in-Some in
    record {
      name = some.0;
      word = word;
      rest = some.1;
      words_are = some.2;
      taken = subst (λ (own : List Text). fault_of (shell_app word) own ≡ []) some.3 said.ensures.taken;
      says = subst (λ (own : List Text). SaysShell word (matches_of (shell_app word) own) said.field-0) some.3
          said.ensures.says;
    }
