-- The program's commands and their options, as `clap` reads them.
use Rattle.std.specs.Prelude.{codes, List, Some, true, map, [], ◌∷◌}
use Rattle.clap.specs.Words.{App, Rule, Text, new_app, new_rule}
use Rattle.clap.specs.declared.builder.ArgAction.TheVariants.{Set}
use Rattle.rv_words.specs.Listed.{with_apps, with_rules}

-- an option `--name VALUE` that has to be given
abbrev pub required_option : Text → Rule
required_option name =
    record (new_rule name) { long = Some name; action = Some Set; required = true }

-- a command of this name with such options
abbrev pub command_app : Text → List Text → App
command_app name options = with_rules (new_app name) (map required_option options)

-- the program's commands
abbrev pub rv_commands : List App
rv_commands =
    command_app (codes "book") (codes "epoch" ∷ [])
    ∷ command_app (codes "play") []
    ∷ command_app (codes "audit") []
    ∷ command_app (codes "serve")
    (codes "listen" ∷ codes "epoch" ∷ codes "workers" ∷ codes "connections" ∷ [])
    ∷ command_app (codes "call")
    (codes "connect" ∷ codes "client" ∷ codes "incarnation" ∷ codes "tries" ∷ codes "speak" ∷ [])
    ∷ command_app (codes "end") (codes "status" ∷ codes "connect" ∷ codes "older" ∷ [])
    ∷ []

-- the program as `clap` reads it: its commands, with their options
abbrev pub rv_app : App
rv_app = with_apps (new_app (codes "rv")) rv_commands
