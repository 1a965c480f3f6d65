-- The calls that the words of a shell's command say.
use Rattle.std.specs.Prelude.{codes, List, ℕ, None, Option, Some, true, [], ◌∷◌, ◌≡◌, ◌≤◌}
use Rattle.std.specs.Prelude.{option_map}
use Rattle.clap.specs.Words.{Row, Text, fault_of, first_of, matches_of}
use Rattle.rv_text.specs.declared.call.Call.{Call}
use Rattle.rv_text.specs.declared.call.Call.TheVariants as call
use Rattle.rv_text.specs.declared.call.Wait.{Wait}
use Rattle.rv_text.specs.declared.call.Wait.TheVariants.{Forever, Millis, Now}
use Rattle.rv_words.specs.command.Command.{GivesBetween}
use Rattle.rv_words.specs.Durations.{WritesDuration}
use Rattle.rv_words.specs.options.Options.{SaysFlag}
use Rattle.rv_words.specs.shell.Words.{place_value, shell_app, shell_word, value_word}
use Rattle.rv_words.specs.declared.shell.ShellCall.{ShellCall}
use Rattle.rv_words.specs.declared.shell.value.ShellValue.{ShellValue}
use Rattle.rv_words.specs.declared.shell.value.ShellValue.TheVariants as value
use Rattle.rv_words.specs.declared.shell.word.ShellWord.{ShellWord}
use Rattle.rv_words.specs.declared.shell.word.ShellWord.TheVariants as word

-- the row of a value
abbrev pub value_row : ShellValue → List Row → Option Text
value_row value rows = first_of (value_word value) rows

-- the queue or exchanger that is given
abbrev pub GivesPlace : List Row → ShellWord → ℕ → Type 0
GivesPlace rows word place = GivesBetween 0 63 (value_row (place_value word) rows) place

-- the item that is given
abbrev pub GivesItem : List Row → Text → Type 0
GivesItem rows item = value_row value.Item rows ≡ Some item

-- the wait that is given: none for one of 0, and one without end where there is none
abbrev pub IsWait : Option Text → Wait → Type 0
IsWait None Forever = Unit {0}
IsWait (Some text) Now = WritesDuration text 0
IsWait (Some text) (Millis n) = WritesDuration text n × (1 ≤ n)
IsWait _ _ = ⊥

-- a swap always waits, for 0 milliseconds at least
abbrev pub swap_wait : Wait → Wait
swap_wait Now = Millis 0
swap_wait wait = wait

-- the rows of this command say the call; of a bench it is the one that is asked first
abbrev pub SaysShellCall : List Row → ShellWord → Call → Type 0
SaysShellCall rows word.Put (call.Put queue item) = GivesPlace rows word.Put queue × GivesItem rows item
SaysShellCall rows word.Take (call.Take queue wait) = GivesPlace rows word.Take queue
    × IsWait (value_row value.Wait rows) wait
SaysShellCall rows word.Transfer (call.Transfer queue item wait) =
    GivesPlace rows word.Transfer queue × GivesItem rows item × IsWait (value_row value.Wait rows) wait
SaysShellCall rows word.Drain (call.Drain queue max) =
    GivesPlace rows word.Drain queue × GivesBetween 1 16 (value_row value.Max rows) max
SaysShellCall rows word.Count (call.Count queue) = GivesPlace rows word.Count queue
SaysShellCall rows word.Peek (call.Peek queue) = GivesPlace rows word.Peek queue
SaysShellCall rows word.Bench (call.Count queue) = GivesPlace rows word.Bench queue
SaysShellCall rows word.Swap (call.Swap exchanger item wait) = GivesPlace rows word.Swap exchanger
    × GivesItem rows item
    × (given : Wait) × IsWait (value_row value.Wait rows) given × (wait ≡ swap_wait given)
SaysShellCall rows _ _ = ⊥

-- a put whose item is one dash stands for the lines of standard input
abbrev pub PutsLines : ShellCall → ℕ → Type 0
PutsLines c queue = c.call ≡ call.Put queue (codes "-")

-- the rows say all of this
pub record SaysShell (word : ShellWord) (rows : List Row) (c : ShellCall) : Type 0 where
  pub command : c.word ≡ word
  pub call : SaysShellCall rows word c.call
  pub connect : option_map (λ address. address.now) c.connect ≡ first_of (codes "connect") rows
  pub null : SaysFlag rows (codes "null") c.null
  pub json : SaysFlag rows (codes "json") c.json
  pub one_form : c.null ≡ true → c.json ≡ true → ⊥

-- after the program's name comes a command, and `clap` finds no fault in the words from there on, which say
-- this
pub record NamesCall (words : List Text) (c : ShellCall) : Type 0 where
  pub name : Text
  pub word : ShellWord
  pub rest : List Text
  pub words_are : words ≡ name ∷ shell_word word ∷ rest
  pub taken : fault_of (shell_app word) (shell_word word ∷ rest) ≡ []
  pub says : SaysShell word (matches_of (shell_app word) (shell_word word ∷ rest)) c
