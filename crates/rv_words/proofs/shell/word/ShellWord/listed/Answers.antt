-- Each table is that of its word.
use Rattle.std.proofs.Common.{ap, sym}
use Rattle.rv_words.specs.shell.Words.{shell_app}
use Rattle.rv_words.proofs.shell.word.ShellWord.listed.Goals as goal

pub returns-in-Put : goal.returns-in-Put
returns-in-Put c = ap shell_app (sym c.in-Put.is)

pub returns-in-Take : goal.returns-in-Take
returns-in-Take c = ap shell_app (sym c.in-Take.is)

pub returns-in-Transfer : goal.returns-in-Transfer
returns-in-Transfer c = ap shell_app (sym c.in-Transfer.is)

pub returns-in-Drain : goal.returns-in-Drain
returns-in-Drain c = ap shell_app (sym c.in-Drain.is)

pub returns-in-Count : goal.returns-in-Count
returns-in-Count c = ap shell_app (sym c.in-Count.is)

pub returns-in-Peek : goal.returns-in-Peek
returns-in-Peek c = ap shell_app (sym c.in-Peek.is)

pub returns-in-Swap : goal.returns-in-Swap
returns-in-Swap c = ap shell_app (sym c.in-Swap.is)

pub returns-in-Bench : goal.returns-in-Bench
returns-in-Bench c = ap shell_app (sym c.in-Bench.is)
