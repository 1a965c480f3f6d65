-- What the calls on the bytes of answers do to their fields.
use Rattle.std.specs.Prelude.{ℕ, ◌≡◌, ◌+◌, ◌≤◌, List, ◌∷◌, ◌++◌, length}
use Rattle.std.specs.List.{All}
use Rattle.rv_frame.specs.Cut.{frame_bytes}
use Rattle.rv_server_connections.specs.declared.connection.answers.Outgoing.{Outgoing}
use Rattle.rv_server_connections.specs.declared.connection.answers.Mark.{Mark}
use Rattle.rv_server_connections.specs.connection.Traffic.{AnswerByte, bytes_of, resting}
use Rattle.rv_server_connections.specs.connection.Steps.{Frees}
use Rattle.rv_server_connections.specs.connection.Fields.{behind_in, ready_in}

-- the same bytes, cut in the same way
pub record SameOutgoing (old new : Outgoing) : Type 0 where
  pub bytes : new.bytes.items ≡ old.bytes.items
  pub ready : new.ready ≡ old.ready
  pub marks : new.marks.items ≡ old.marks.items

-- the first answer that may not leave is one that may now
pub record FreesFirst (written : ℕ) (old new : Outgoing) : Type 0 where
  pub first : Mark
  pub marks : old.marks.items ≡ first ∷ new.marks.items
  pub written_first : first.entries ≤ written
  pub ready : new.ready ≡ old.ready + first.bytes
  pub bytes : new.bytes.items ≡ old.bytes.items

-- some of the bytes that may not leave may now
pub record FreesSome (written : ℕ) (old new : Outgoing) : Type 0 where
  pub front : List AnswerByte
  pub parts : behind_in old ≡ front ++ behind_in new
  pub free : All (λ b. b.rests_on ≤ written) front
  pub ready : ready_in new ≡ ready_in old ++ bytes_of front
  pub bytes : new.bytes.items ≡ old.bytes.items

-- of these bytes, which come after those that may leave, all that may leave are passed on
pub record PassesOn (written : ℕ) (old : Outgoing) (held : List AnswerByte) (new : Outgoing) : Type 0 where
  pub front : List AnswerByte
  pub frees : Frees written held front (behind_in new)
  pub ready : ready_in new ≡ ready_in old ++ bytes_of front

-- a body's frame comes after all
pub record Pushes (written : ℕ) (old : Outgoing) (entries : ℕ) (body : List ℕ) (new : Outgoing) : Type 0 where
  pub goes : PassesOn written old (behind_in old ++ resting entries (frame_bytes body)) new
  pub longer : length new.bytes.items ≡ length old.bytes.items + length body + 2

-- what may leave is ready
pub record ReleasesIn (written : ℕ) (old new : Outgoing) : Type 0 where
  pub goes : PassesOn written old (behind_in old) new
  pub bytes : new.bytes.items ≡ old.bytes.items
