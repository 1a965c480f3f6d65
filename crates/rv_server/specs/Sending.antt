-- A connection whose answers are held back in part: the bytes that its writer took, and then the rest.
use Rattle.std.specs.Prelude.{ℕ, ◌≡◌, [], false, true, List, Option, None, Some}
use Rattle.std.specs.Io.KnownBytes.{append_known}
use Rattle.rv_frame.specs.declared.source.Source.{Source}
use Rattle.rv_frame.specs.Sink.{sink_over}
use Rattle.rv_server.specs.declared.fault.WorkFault.{WorkFault}
use Rattle.rv_server.specs.declared.fault.WorkFault.TheVariants.{WriteFault}
use Rattle.rv_server.specs.Works.{Listed, Works, connection}

-- the bytes that a writer took, where they are known, and then those that are held for it
abbrev pub held_behind : Option (List ℕ) → List ℕ → Option (List ℕ)
held_behind = append_known

-- a writer, and the bytes that are held for it
pub record Passing (W : Type 0) : Type 0 where
  pub writer : W
  pub held : List ℕ

abbrev pub passing : {W : Type 0} → W → List ℕ → Passing W
passing writer held = record { writer = writer; held = held }

abbrev pub passing_contents : {W : Type 0} → (W → Option (List ℕ)) → Passing W → Option (List ℕ)
passing_contents contents passing = held_behind (contents passing.writer) passing.held

-- what `work` says of a writer for which nothing is held back at first, and these bytes at the end, when it
-- is given up
abbrev pub WorksThrough : {R W : Type 0} → (R → Option (List ℕ)) → (W → Option (List ℕ)) → Source R → Source R
    → W → W → List ℕ → ℕ → ℕ → Listed → Option WorkFault → Type 0
WorksThrough remaining contents source source' writer writer' held share share' list fault =
    Works remaining (passing_contents contents)
    (connection source (sink_over (passing writer []) false) share)
    (connection source' (sink_over (passing writer' held) true) share') list fault

-- the worker's fault is reported; without one, that some bytes were not sent
abbrev pub IsFirstFault : Option WorkFault → Option WorkFault → List ℕ → Type 0
IsFirstFault (Some fault) told held = told ≡ Some fault
IsFirstFault None None held = held ≡ []
IsFirstFault None (Some fault) held = fault ≡ WriteFault 0
