-- The commands that are left bring the program that all bring.
use Rattle.std.proofs.Common.{◌≡◌, drop, map}
use Rattle.clap.specs.Words.{app_of}
use Rattle.rv_words.specs.Listed.{listed_app, with_apps}
use Rattle.rv_words.proofs.listed.with_commands.Given as goal

abbrev pub invariant-loop-listed : goal.invariant-loop-listed
invariant-loop-listed l =
    with_apps (app_of l.program) (map listed_app (drop l.listed-index l.commands))
    ≡ with_apps (app_of l.fn.program) (map listed_app l.commands)
