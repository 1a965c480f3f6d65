-- What a clause reads of a `Sink`: its device, whether a write failed, and the bytes that the device holds.
use Rattle.std.specs.Prelude.{ℕ, Bool, List, MatchResult, Option, Result, true, ◌≡◌}
use Rattle.std.specs.Io.KnownBytes.{Appends}
use Rattle.rv_frame.specs.declared.sink.Sink.{Sink}

-- the writer that the sink writes to
abbrev pub sink_device : {W : Type 0} → Sink W → W
sink_device sink = sink.device

-- a write to the device failed
abbrev pub sink_failed : {W : Type 0} → Sink W → Bool
sink_failed sink = sink.failed

-- a sink over this device, which has failed or not
abbrev pub sink_over : {W : Type 0} → W → Bool → Sink W
sink_over device failed = record { device = device; failed = failed }

-- the bytes that the device holds, where they are known, by its `W.contents`
abbrev pub sink_contents : {W : Type 0} → (W → Option (List ℕ)) → Sink W → Option (List ℕ)
sink_contents contents sink = contents sink.device

-- the device took exactly these bytes, where the bytes that it holds are known, by its `W.contents`
abbrev pub SinkTakes : {W : Type 0} → (W → Option (List ℕ)) → Sink W → Sink W → List ℕ → Type 0
SinkTakes contents old new bytes = Appends (sink_contents contents old) (sink_contents contents new) bytes

-- the call answers a fault where the sink failed, and leaves it as it was where it answers none
abbrev pub FailsWithSink : {T E W : Type 0} → Result T E → Sink W → Sink W → Type 0
FailsWithSink result old new =
    MatchResult result (λ _. sink_failed new ≡ sink_failed old) (λ _. sink_failed new ≡ true)
