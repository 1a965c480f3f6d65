-- The commands that are left bring the program that all bring.
use Rattle.std.proofs.Common.{◌≡◌, drop, map}
use Rattle.clap.specs.Words.{app_of}
use Rattle.rv_words.specs.Listed.{with_apps}
use Rattle.rv_words.specs.shell.Words.{shell_app}
use Rattle.rv_words.proofs.helping.with_shell.Given as goal

abbrev pub invariant-loop-word : goal.invariant-loop-word
invariant-loop-word l =
    with_apps (app_of l.program) (map shell_app (drop l.word-index l.words))
    ≡ with_apps (app_of l.fn.program) (map shell_app l.words)
