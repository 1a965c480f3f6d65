-- What a read of a connection's socket gives.
use Rattle.std.specs.Prelude.{ℕ, ◌≡◌, ◌<◌, Bool, List, [], Option, length, true}
use Rattle.std.specs.Io.KnownBytes.{Consumes, IsAtEnd, Keeps}
use Rattle.rv_traffic.specs.declared.links.link.ReadOutcome.{ReadOutcome}
use Rattle.rv_traffic.specs.declared.links.link.ReadOutcome.TheVariants as input
use Rattle.rv_traffic.specs.declared.links.link.Socket.{Socket}

-- a socket that was accepted at a moment, with nothing pending
abbrev pub fresh_link : {S : Type 0} → S → ℕ → ℕ → Socket S
fresh_link stream now spare = record {
  stream = stream;
  pending = record { items = []; spare = spare };
  is_readable = true;
  is_writable = true;
  heard = now;
  moved = now;
  sent = now;
}

-- what a read leaves as it was
pub record KeepsOutput {S : Type 0} (old new : Socket S) : Type 0 where
  pub pending : new.pending ≡ old.pending
  pub writable : new.is_writable ≡ old.is_writable
  pub moved : new.moved ≡ old.moved
  pub sent : new.sent ≡ old.sent

-- bytes came from the socket, if it may be read, and these are all that it gave
abbrev pub GivesInput : {S : Type 0} → (S → Option (List ℕ)) → Socket S → ReadOutcome → List ℕ → Socket S
    → Type 0
GivesInput remaining old input.Piece bytes new = (0 < length bytes) × (old.is_readable ≡ true)
    × Consumes (remaining old.stream) (remaining new.stream) bytes
GivesInput remaining old input.End bytes new = (bytes ≡ []) × (old.is_readable ≡ true)
    × IsAtEnd (remaining new.stream) × Consumes (remaining old.stream) (remaining new.stream) bytes
GivesInput remaining old input.Nothing bytes new = (bytes ≡ [])
    × Keeps (remaining old.stream) (remaining new.stream)
GivesInput remaining old input.Broken bytes new = (bytes ≡ []) × (old.is_readable ≡ true)
    × Keeps (remaining old.stream) (remaining new.stream)

-- when bytes of a socket last came, after a read at a moment
abbrev pub heard_after : ℕ → ℕ → ReadOutcome → ℕ
heard_after now before input.Piece = now
heard_after now before input.End = before
heard_after now before input.Nothing = before
heard_after now before input.Broken = before

-- whether the socket may be read stays as it was; if nothing came, it may have been found to block
abbrev pub StaysReadable : ReadOutcome → Bool → Bool → Type 0
StaysReadable input.Piece before after = after ≡ before
StaysReadable input.End before after = after ≡ before
StaysReadable input.Nothing before after = after ≡ true → before ≡ true
StaysReadable input.Broken before after = after ≡ before

-- one read at a moment
pub record ReadsOnce {S : Type 0} (remaining : S → Option (List ℕ)) (now : ℕ) (old : Socket S)
    (came : ReadOutcome) (bytes : List ℕ) (new : Socket S) : Type 0
  where
    pub gives : GivesInput remaining old came bytes new
    pub rest : KeepsOutput old new
    pub readable : StaysReadable came old.is_readable new.is_readable
    pub heard : new.heard ≡ heard_after now old.heard came
