-- The words from the command on are those after the name.
use Rattle.std.proofs.Common.{arith}
use Rattle.rv_words.specs.shell.Words.{shell_word}
use Rattle.rv_words.proofs.OwnWords.{begin_by}
use Rattle.rv_words.proofs.shell.own_words.Goals as goal

pub returns-clause-some : goal.returns-clause-some
returns-clause-some c =
    begin_by (shell_word c.in_ok-word.word) c.args.words.now _ (omega (arith, c.if-words-lt2.false))
    c.in_ok-word.ensures.some
