-- The commands of a shell, as `clap` reads them.
use Rattle.std.specs.Prelude.{codes, false, List, Some, true, [], ◌∷◌}
use Rattle.clap.specs.Words.{App, Rule, Text, new_app, new_rule}
use Rattle.clap.specs.declared.builder.ArgAction.TheVariants.{Set}
use Rattle.rv_words.specs.Listed.{with_rules}
use Rattle.rv_words.specs.options.Words.{flag_rule, text_rule}
use Rattle.rv_words.specs.declared.shell.value.ShellValue.{ShellValue}
use Rattle.rv_words.specs.declared.shell.value.ShellValue.TheVariants as value
use Rattle.rv_words.specs.declared.shell.word.ShellWord.{ShellWord}
use Rattle.rv_words.specs.declared.shell.word.ShellWord.TheVariants.{Bench, Count, Drain, Peek, Put}
use Rattle.rv_words.specs.declared.shell.word.ShellWord.TheVariants.{Swap, Take, Transfer}

-- the word of a command
abbrev pub shell_word : ShellWord → Text
shell_word Put = codes "put"
shell_word Take = codes "take"
shell_word Transfer = codes "transfer"
shell_word Drain = codes "drain"
shell_word Count = codes "count"
shell_word Peek = codes "peek"
shell_word Swap = codes "swap"
shell_word Bench = codes "bench"

-- the name of a value
abbrev pub value_word : ShellValue → Text
value_word value.Place = codes "QUEUE"
value_word value.Exchanger = codes "EXCHANGER"
value_word value.Item = codes "ITEM"
value_word value.Wait = codes "wait"
value_word value.Max = codes "max"

-- the value that tells where a command does what it does
abbrev pub place_value : ShellWord → ShellValue
place_value Swap = value.Exchanger
place_value _ = value.Place

-- a command has to be given this value
abbrev pub NeedsValue : ShellWord → ShellValue → Type 0
NeedsValue Swap value.Exchanger = Unit {0}
NeedsValue Swap value.Place = ⊥
NeedsValue word value.Place = Unit {0}
NeedsValue Put value.Item = Unit {0}
NeedsValue Transfer value.Item = Unit {0}
NeedsValue Swap value.Item = Unit {0}
NeedsValue Drain value.Max = Unit {0}
NeedsValue _ _ = ⊥

-- a value with no option before it, which has to be given
abbrev pub place_rule : ShellValue → Rule
place_rule value = record (new_rule (value_word value)) { action = Some Set; required = true }

-- the options of every command that makes one call
abbrev pub common_rules : List Rule
common_rules = text_rule (codes "connect") false ∷ flag_rule (codes "null") ∷ flag_rule (codes "json") ∷ []

-- the rules of a command
abbrev pub shell_rules : ShellWord → List Rule
shell_rules Put = place_rule value.Place ∷ place_rule value.Item ∷ common_rules
shell_rules Take = place_rule value.Place ∷ text_rule (codes "wait") false ∷ common_rules
shell_rules Transfer =
    place_rule value.Place ∷ place_rule value.Item ∷ text_rule (codes "wait") false ∷ common_rules
shell_rules Drain = place_rule value.Place ∷ text_rule (codes "max") true ∷ common_rules
shell_rules Count = place_rule value.Place ∷ common_rules
shell_rules Peek = place_rule value.Place ∷ common_rules
shell_rules Bench = place_rule value.Place ∷ text_rule (codes "connect") false ∷ []
shell_rules Swap =
    place_rule value.Exchanger ∷ place_rule value.Item ∷ text_rule (codes "wait") false ∷ common_rules

abbrev pub shell_app : ShellWord → App
shell_app word = with_rules (new_app (shell_word word)) (shell_rules word)
