-- The words of `rv help`.
use Rattle.std.specs.Prelude.{codes, List, map, ℕ, [], ◌∷◌, ◌++◌}
use Rattle.clap.specs.Words.{App, IsAmong, Text, fault_of, kind_of, with_subcommand}
use Rattle.clap.specs.declared.error.kind.ErrorKind.{ErrorKind}
use Rattle.clap.specs.declared.error.kind.ErrorKind.TheVariants.{DisplayHelp}
use Rattle.rv_words.specs.options.Words.{host_app}
use Rattle.rv_words.specs.Listed.{with_apps}
use Rattle.rv_words.specs.Program.{command_app, rv_app}
use Rattle.rv_words.specs.Compacting.{compact_app}
use Rattle.rv_words.specs.Verifying.{verify_app}
use Rattle.rv_words.specs.shell.Words.{shell_app}
use Rattle.rv_words.specs.declared.helping.HelpAnswer.{HelpAnswer}
use Rattle.rv_words.specs.declared.shell.word.ShellWord.TheVariants.{Bench, Count, Drain, Peek, Put}
use Rattle.rv_words.specs.declared.shell.word.ShellWord.TheVariants.{Swap, Take, Transfer}

-- of the commands that read their words themselves: `record --to FILE`, as help shows it, `version`,
-- `verify` and `compact`
abbrev pub own_apps : List App
own_apps = command_app (codes "record") (codes "to" ∷ []) ∷ command_app (codes "version") [] ∷ verify_app
    ∷ compact_app ∷ []

-- the commands of a shell
abbrev pub shell_apps : List App
shell_apps = map shell_app (Put ∷ Take ∷ Transfer ∷ Drain ∷ Count ∷ Peek ∷ Swap ∷ Bench ∷ [])

-- all of them but `host`
abbrev pub other_apps : List App
other_apps = own_apps ++ shell_apps

-- the program with all its commands
abbrev pub help_app : App
help_app = with_subcommand (with_apps rv_app other_apps) host_app.top

-- the answer is of a kind that clap finds for the words
abbrev pub IsHelpFor : List Text → HelpAnswer → Type 0
IsHelpFor words answer = IsAmong (kind_of answer.error) (fault_of help_app words)

-- the status of a program that ends with an answer of this kind
abbrev pub help_status : ErrorKind → ℕ
help_status DisplayHelp = 0
help_status other = 2
