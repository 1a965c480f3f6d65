-- What a write to a connection's socket takes.
use Rattle.std.specs.Prelude.{ℕ, ◌≡◌, ◌<◌, ◌≤◌, Bool, List, Option, length, take, true}
use Rattle.std.specs.Io.KnownBytes.{Appends, Keeps}
use Rattle.rv_traffic.specs.declared.links.link.Socket.{Socket}
use Rattle.rv_traffic.specs.declared.links.link.WriteOutcome.{WriteOutcome}
use Rattle.rv_traffic.specs.declared.links.link.WriteOutcome.TheVariants as output

-- what a write leaves as it was
pub record KeepsInput {S : Type 0} (old new : Socket S) : Type 0 where
  pub pending : new.pending ≡ old.pending
  pub readable : new.is_readable ≡ old.is_readable
  pub heard : new.heard ≡ old.heard

-- the socket took so many bytes, at least one, if it may be written, and these are all that it took
abbrev pub TakesOutput : {S : Type 0} → (S → Option (List ℕ)) → Socket S → List ℕ → WriteOutcome → Socket S
    → Type 0
TakesOutput contents old ready (output.Took count) new = (0 < count) × (count ≤ length ready)
    × (old.is_writable ≡ true) × Appends (contents old.stream) (contents new.stream) (take count ready)
TakesOutput contents old ready output.Nothing new = Keeps (contents old.stream) (contents new.stream)
TakesOutput contents old ready output.Broken new = (old.is_writable ≡ true)
    × Keeps (contents old.stream) (contents new.stream)

-- when bytes last left to a socket, or none were there to leave, after a write at a moment
abbrev pub moved_after : ℕ → ℕ → WriteOutcome → ℕ
moved_after now before (output.Took count) = now
moved_after now before output.Nothing = before
moved_after now before output.Broken = before

-- whether the socket may be written to stays as it was; if it took nothing, it may have been found to block
abbrev pub StaysWritable : WriteOutcome → Bool → Bool → Type 0
StaysWritable (output.Took count) before after = after ≡ before
StaysWritable output.Nothing before after = after ≡ true → before ≡ true
StaysWritable output.Broken before after = after ≡ before

-- one write at a moment
pub record WritesOnce {S : Type 0} (contents : S → Option (List ℕ)) (now : ℕ) (old : Socket S)
    (ready : List ℕ) (what : WriteOutcome) (new : Socket S) : Type 0
  where
    pub takes : TakesOutput contents old ready what new
    pub rest : KeepsInput old new
    pub writable : StaysWritable what old.is_writable new.is_writable
    pub moved : new.moved ≡ moved_after now old.moved what
    pub sent : new.sent ≡ moved_after now old.sent what
