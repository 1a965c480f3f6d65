-- What is wrong with words that aren't options of `rv host`.
use Rattle.std.specs.Prelude.{codes, List, ℕ, None, Some, true, is_some, [], ◌≡◌, ◌⊎◌}
use Rattle.clap.specs.Words.{IsAmong, Row, Text, fault_of, first_of, kind_of, matches_of}
use Rattle.clap.specs.declared.error.Error.{Error}
use Rattle.clap.specs.declared.error.kind.ErrorKind.{ErrorKind}
use Rattle.clap.specs.declared.error.kind.ErrorKind.TheVariants.{DisplayHelp, OutOfMemory}
use Rattle.rv_words.specs.options.Words.{host_app}
use Rattle.rv_words.specs.options.Numbers.{IsAlwaysThere, WritesWithin, given_for, option_word}
use Rattle.rv_words.specs.declared.options.fault.HostFault.{HostFault}
use Rattle.rv_words.specs.declared.options.fault.HostFault.TheVariants.{Missing, NoMemory, Outside, Refused}
use Rattle.rv_words.specs.declared.options.fault.HostFault.TheVariants.{NoStore, TwoAccounts, TwoEpochs}
use Rattle.rv_words.specs.declared.options.number.HostNumber.{HostNumber}
use Rattle.rv_words.specs.declared.options.number.HostNumber.TheVariants as number

-- there has to be an address to listen at, and each number but those of the epoch
abbrev pub IsNeeded : Text → Type 0
IsNeeded word = (word ≡ codes "listen")
    ⊎ ((number : HostNumber) × IsAlwaysThere number × (word ≡ option_word number))

-- the flags that want a store
abbrev pub WantsStore : Text → Type 0
WantsStore word = (word ≡ codes "new-epoch") ⊎ (word ≡ codes "no-sync")

-- a fault of options that `clap` accepts, by their rows
abbrev pub IsFaultOf : List Row → HostFault → Type 0
IsFaultOf rows (Refused error) = ⊥
IsFaultOf rows (Outside number given) = (given_for number rows ≡ Some given.now)
    × ((n : ℕ) → ¬ WritesWithin number given.now n)
IsFaultOf rows (Missing word) = IsNeeded word.now × (first_of word.now rows ≡ None)
IsFaultOf rows TwoEpochs = (is_some (given_for number.Epoch rows) ≡ true)
    × (is_some (given_for number.EpochAbove rows) ≡ true)
IsFaultOf rows TwoAccounts = (is_some (first_of (codes "account") rows) ≡ true)
    × (is_some (first_of (codes "store") rows) ≡ true)
IsFaultOf rows (NoStore word) = WantsStore word.now × (first_of word.now rows ≡ Some (codes "true"))
    × (first_of (codes "store") rows ≡ None)
IsFaultOf rows NoMemory = Unit {0}

-- a fault of the words: one that `clap` finds, a call for help included, or else one of the options
abbrev pub IsFault : List Text → HostFault → Type 0
IsFault words (Refused error) = IsAmong (kind_of error) (fault_of host_app words)
IsFault words NoMemory = Unit {0}
IsFault words fault = (fault_of host_app words ≡ []) × IsFaultOf (matches_of host_app words) fault

-- the status of a program that ends with an error of this kind
abbrev pub status_of_kind : ErrorKind → ℕ
status_of_kind DisplayHelp = 0
status_of_kind other = 2

-- the status of a program that ends with a fault
abbrev pub status_of : HostFault → ℕ
status_of (Refused error) = status_of_kind (kind_of error)
status_of NoMemory = 1
status_of fault = 2

-- the fault as which an error of this kind from `clap` is reported
abbrev pub fault_by : ErrorKind → Error → HostFault
fault_by OutOfMemory error = NoMemory
fault_by other error = Refused error
