-- Commands and their options, as tables of the code list them, and as `clap` reads them.
use Rattle.std.specs.Prelude.{if◌then◌else◌, List, Some, length, map, [], ◌∷◌}
use Rattle.clap.specs.Walk.{texts}
use Rattle.clap.specs.Words.{App, Rule, new_app, new_rule, with_rule, with_subcommand}
use Rattle.rv_words.specs.declared.listed.ListedCommand.{ListedCommand}
use Rattle.rv_words.specs.declared.listed.ListedOption.{ListedOption}

-- the app with these rules too, one after another
abbrev pub with_rules : App → List Rule → App
with_rules app [] = app
with_rules app (rule ∷ rules) = with_rules (with_rule app rule) rules

-- the app with these subcommands too, one after another
abbrev pub with_apps : App → List App → App
with_apps app [] = app
with_apps app (command ∷ commands) = with_apps (with_subcommand app command.top) commands

-- the rule of a value with no option before it
abbrev pub positional_rule : ListedOption → Rule
positional_rule option = record (new_rule option.name.now) {
  action = Some option.action;
  value_names = length option.values.now;
  required = option.required;
  defaults = texts option.usual.now;
}

-- the rule of an option, whose name has two dashes before it unless it is such a value
abbrev pub listed_rule : ListedOption → Rule
listed_rule option =
    if option.positional then positional_rule option
    else record (positional_rule option) { long = Some option.name.now }

-- a command with its options
abbrev pub listed_app : ListedCommand → App
listed_app command = with_rules (new_app command.name.now) (map listed_rule command.options.now)
