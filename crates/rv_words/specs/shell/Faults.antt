-- What is wrong with the words of a shell's command.
use Rattle.std.specs.Prelude.{codes, List, ℕ, None, Some, [], ◌∷◌, ◌≡◌}
use Rattle.clap.specs.Words.{IsAmong, Row, Text, fault_of, first_of, kind_of, matches_of}
use Rattle.clap.specs.declared.error.Error.{Error}
use Rattle.clap.specs.declared.error.kind.ErrorKind.{ErrorKind}
use Rattle.clap.specs.declared.error.kind.ErrorKind.TheVariants.{OutOfMemory}
use Rattle.rv_json.specs.Limits.{FitsItem}
use Rattle.rv_text.specs.Number.{WritesBetween}
use Rattle.rv_words.specs.Durations.{WritesDuration}
use Rattle.rv_words.specs.options.Faults.{status_of_kind}
use Rattle.rv_words.specs.shell.Calls.{value_row}
use Rattle.rv_words.specs.shell.Words.{NeedsValue, shell_app, shell_word}
use Rattle.rv_words.specs.declared.shell.fault.ShellFault.{ShellFault}
use Rattle.rv_words.specs.declared.shell.fault.ShellFault.TheVariants.{Missing, NoMemory, Outside, Refused}
use Rattle.rv_words.specs.declared.shell.fault.ShellFault.TheVariants.{TwoForms}
use Rattle.rv_words.specs.declared.shell.value.ShellValue.{ShellValue}
use Rattle.rv_words.specs.declared.shell.value.ShellValue.TheVariants as value
use Rattle.rv_words.specs.declared.shell.word.ShellWord.{ShellWord}

-- a text is no queue and no exchanger
abbrev pub IsNoPlace : Text → Type 0
IsNoPlace text = (n : ℕ) → ¬ WritesBetween 0 63 text n

-- a text is no such value
abbrev pub IsNoValue : ShellValue → Text → Type 0
IsNoValue value.Place text = IsNoPlace text
IsNoValue value.Exchanger text = IsNoPlace text
IsNoValue value.Item text = ¬ FitsItem text
IsNoValue value.Wait text = (n : ℕ) → ¬ WritesDuration text n
IsNoValue value.Max text = (n : ℕ) → ¬ WritesBetween 1 16 text n

-- a fault of a command's words that `clap` accepts, by their rows
abbrev pub IsFaultIn : ShellWord → List Row → ShellFault → Type 0
IsFaultIn word rows (Refused error) = ⊥
IsFaultIn word rows (Outside value given) = (value_row value rows ≡ Some given.now)
    × IsNoValue value given.now
IsFaultIn word rows (Missing value) = NeedsValue word value × (value_row value rows ≡ None)
IsFaultIn word rows TwoForms = (first_of (codes "null") rows ≡ Some (codes "true"))
    × (first_of (codes "json") rows ≡ Some (codes "true"))
IsFaultIn word rows NoMemory = Unit {0}

-- a fault of the words from a command on: one that `clap` finds, a call for help included, or one of their
-- rows
abbrev pub IsShellFault : ShellWord → List Text → ShellFault → Type 0
IsShellFault word own (Refused error) = IsAmong (kind_of error) (fault_of (shell_app word) own)
IsShellFault word own NoMemory = Unit {0}
IsShellFault word own fault =
    (fault_of (shell_app word) own ≡ []) × IsFaultIn word (matches_of (shell_app word) own) fault

-- after the program's name comes a command, and the words from there on have this fault
pub record HasShellFault (words : List Text) (fault : ShellFault) : Type 0 where
  pub name : Text
  pub word : ShellWord
  pub rest : List Text
  pub words_are : words ≡ name ∷ shell_word word ∷ rest
  pub fault_is : IsShellFault word (shell_word word ∷ rest) fault

-- the status of a program that ends with a fault
abbrev pub shell_status : ShellFault → ℕ
shell_status (Refused error) = status_of_kind (kind_of error)
shell_status fault = 2

-- the fault as which an error of this kind from `clap` is reported
abbrev pub shell_fault_by : ErrorKind → Error → ShellFault
shell_fault_by OutOfMemory error = NoMemory
shell_fault_by other error = Refused error
