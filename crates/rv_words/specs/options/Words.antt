-- The command `host` as `clap` reads it: its options, with their defaults.
use Rattle.std.specs.Prelude.{Bool, codes, List, Some, true, false, [], ◌∷◌}
use Rattle.clap.specs.Words.{App, Rule, Text, new_app, new_rule}
use Rattle.clap.specs.declared.builder.ArgAction.TheVariants.{Set, SetTrue}
use Rattle.rv_words.specs.Listed.{with_rules}
use Rattle.rv_words.specs.options.Numbers.{option_word}
use Rattle.rv_words.specs.declared.options.number.HostNumber.{HostNumber}
use Rattle.rv_words.specs.declared.options.number.HostNumber.TheVariants as number

-- an option `--NAME VALUE`
abbrev pub text_rule : Text → Bool → Rule
text_rule name required =
    record (new_rule name) { long = Some name; action = Some Set; value_names = 1; required = required }

-- an option `--NAME N`, with its default
abbrev pub number_rule : HostNumber → List Text → Rule
number_rule number usual = record (text_rule (option_word number) false) { defaults = usual }

-- a flag `--NAME`
abbrev pub flag_rule : Text → Rule
flag_rule name = record (new_rule name) { long = Some name; action = Some SetTrue }

-- `host` with its options
abbrev pub host_app : App
host_app = with_rules (new_app (codes "host"))
    (text_rule (codes "listen") true
    ∷ text_rule (codes "account") false
    ∷ text_rule (codes "store") false
    ∷ text_rule (codes "status") false
    ∷ text_rule (codes "status-name") false
    ∷ number_rule number.Epoch []
    ∷ number_rule number.EpochAbove []
    ∷ flag_rule (codes "new-epoch")
    ∷ flag_rule (codes "no-sync")
    ∷ text_rule (codes "boot") false
    ∷ number_rule number.Clients (codes "65536" ∷ [])
    ∷ number_rule number.Open (codes "100000" ∷ [])
    ∷ number_rule number.Connections (codes "10000" ∷ [])
    ∷ number_rule number.ConnectionsFrom (codes "1000000" ∷ [])
    ∷ number_rule number.Memory (codes "256" ∷ [])
    ∷ number_rule number.Idle (codes "3600" ∷ [])
    ∷ number_rule number.Stall (codes "30" ∷ [])
    ∷ flag_rule (codes "quiet")
    ∷ [])
