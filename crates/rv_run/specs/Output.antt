-- What a clause can say of an `Output`: the bytes that it gathered, and how many it sent before.
use Rattle.std.specs.Prelude.{ℕ, List, Option, String, [], ◌≡◌, ◌+◌, ◌-◌, ◌<◌, ◌≤◌, ◌⊎◌}
use Rattle.std.specs.Prelude.{length, string_bytes, take}
use Rattle.std.specs.declared.alloc.Global.{Global}
use Rattle.std.specs.Io.KnownBytes.{append_known}
use Rattle.rv_frame.specs.declared.sink.Sink.{Sink}
use Rattle.rv_frame.specs.Sink.{SinkTakes}
pub use Rattle.rv_book.specs.lines.Lines.{IsShort}
use Rattle.rv_run.specs.declared.output.Output.{Output}

-- the bytes that wait to be sent
abbrev pub gathered_bytes : Output → List ℕ
gathered_bytes output = output.gathered.items

-- how many bytes went out before
abbrev pub sent_before : Output → ℕ
sent_before output = output.sent

-- how many bytes were taken in: those that went out, and those that wait
abbrev pub taken_in : Output → ℕ
taken_in output = sent_before output + length (gathered_bytes output)

abbrev pub IsShortText : String Global → Type 0
IsShortText text = IsShort (string_bytes text)

-- what the device will hold once the gathered bytes have gone out
abbrev pub promised_contents : Option (List ℕ) → Output → Option (List ℕ)
promised_contents contents output = append_known contents (gathered_bytes output)

-- after so many bytes that went out before, the sink took only a front of these: a write failed after so many
-- bytes in all, which are not all of them
pub record StopsAfter {W : Type 0} (contents : W → Option (List ℕ)) (bytes : List ℕ) (before : ℕ)
    (old new : Sink W) (sent : ℕ) : Type 0 where
  pub past_those_sent : before ≤ sent
  pub not_all : sent < before + length bytes
  pub went_out : SinkTakes contents old new (take (sent - before) bytes)

-- all that was gathered is among the bytes that went out, so many in all, and nothing waits
pub record SentGathered (old new : Output) (sent : ℕ) : Type 0 where
  pub went_out : taken_in old ≤ sent
  pub count_stays : taken_in new ≡ taken_in old
  pub none_waits : gathered_bytes new ≡ []

-- a write failed after so many bytes in all: what was gathered waits as it did, or all of it went out
abbrev pub KeepsOrSends : Output → Output → ℕ → Type 0
KeepsOrSends old new sent = (new ≡ old) ⊎ SentGathered old new sent
