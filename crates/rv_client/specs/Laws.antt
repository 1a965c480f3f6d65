-- Laws of a client's process.
use Rattle.std.specs.Prelude.{◌≡◌, IfSome, ℕ}
use Rattle.rv_text.specs.Limits.{FitsIdentifier, FitsKey}
use Rattle.rv_text.specs.declared.answer.Answer.{Answer}
use Rattle.rv_text.specs.declared.message.Key.{Key}
use Rattle.rv_client.specs.Process.{Hears, Outcome, Process, Starting, first_key, key_after}

-- an answer has at most one outcome
abbrev pub OneOutcome : Type 0
OneOutcome = (process : Process) (answer : Answer) (a b : Outcome) → Hears process answer a
    → Hears process answer b → a ≡ b

-- the key of a first request, and that of a next one, keep the limits
abbrev pub FirstKeyFits : Type 0
FirstKeyFits = (starting : Starting) (epoch : ℕ) → FitsIdentifier starting.client
    → FitsIdentifier starting.incarnation → FitsIdentifier epoch → FitsKey (first_key starting epoch)

abbrev pub NextKeyFits : Type 0
NextKeyFits = (key : Key) → FitsKey key → IfSome (key_after key) FitsKey
