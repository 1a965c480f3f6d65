-- What the fields of a connection hold, for the proofs: the public words are those of `Traffic`.
use Rattle.std.specs.Prelude.{ℕ, ◌≡◌, ◌+◌, ◌*◌, ◌<◌, ◌≤◌, ◌⊎◌, true, List, [], ◌∷◌, ◌++◌, length, take, drop}
use Rattle.std.specs.Prelude.{IfSome, None, Option, Some}
use Rattle.rv_server_connections.specs.declared.connection.answers.Outgoing.{Outgoing}
use Rattle.rv_server_connections.specs.declared.connection.answers.Mark.{Mark}
use Rattle.rv_server_connections.specs.declared.connection.buffers.Buffers.{Buffers}
use Rattle.rv_server_connections.specs.connection.Traffic.{AnswerByte, IsBad, IsOneAtMost, IsWholeFrame}
use Rattle.rv_server_connections.specs.connection.Traffic.{Traffic, most_held, resting}

-- ---- unread bytes

-- the size of the frame that begins the bytes, by its two length bytes if they are there
abbrev pub told_size : List ℕ → Option ℕ
told_size [] = None
told_size (high ∷ []) = None
told_size (high ∷ low ∷ bytes) = Some (256 * high + low + 2)

-- no more than that frame has come
abbrev pub IsBegun : List ℕ → Type 0
IsBegun bytes = IfSome (told_size bytes) (λ size. length bytes ≤ size)

-- exactly that frame has come
abbrev pub IsComplete : List ℕ → Type 0
IsComplete bytes = told_size bytes ≡ Some (length bytes)

-- so many bytes of a piece are wanted
pub record IsWanted (unread piece : List ℕ) (count : ℕ) : Type 0 where
  pub within : count ≤ length piece
  pub front : IsBegun (unread ++ take count piece)
  pub stops : count < length piece → IsComplete (unread ++ take count piece)

-- so many bytes of a piece are taken: all, or as many as end a frame or a bad length
pub record LeavesOne (unread piece : List ℕ) (count : ℕ) : Type 0 where
  pub wanted : IsWanted unread piece count
  pub one : IsOneAtMost (unread ++ take count piece)
  pub ends : count < length piece
      → IsWholeFrame (unread ++ take count piece) ⊎ IsBad (unread ++ take count piece)

-- ---- answers

-- how many bytes the answers have
abbrev pub marked_count : List Mark → ℕ
marked_count [] = 0
marked_count (m ∷ marks) = m.bytes + marked_count marks

-- each answer has a byte
abbrev pub NoneEmpty : List Mark → Type 0
NoneEmpty [] = Unit {0}
NoneEmpty (m ∷ marks) = (0 < m.bytes) × NoneEmpty marks

-- the bytes of the answers, one after another
abbrev pub marked_bytes : List Mark → List ℕ → List AnswerByte
marked_bytes [] bytes = []
marked_bytes (m ∷ marks) bytes = resting m.entries (take m.bytes bytes) ++ marked_bytes marks
    (drop m.bytes bytes)

abbrev pub ready_in : Outgoing → List ℕ
ready_in a = take a.ready a.bytes.items

abbrev pub behind_in : Outgoing → List AnswerByte
behind_in a = marked_bytes a.marks.items (drop a.ready a.bytes.items)

pub record IsSoundOutgoing (a : Outgoing) : Type 0 where
  pub all : a.ready + marked_count a.marks.items ≡ length a.bytes.items
  pub none_empty : NoneEmpty a.marks.items
  pub short : length a.bytes.items ≤ 131071

-- ---- both

abbrev pub traffic_of : Buffers → Traffic
traffic_of b = record {
  unread = b.unread.items;
  owes = b.owes;
  ready = ready_in b.answers;
  behind = behind_in b.answers;
  ended = b.ended;
}

pub record IsSoundWire (b : Buffers) : Type 0 where
  pub front : IsBegun b.unread.items
  pub answers : IsSoundOutgoing b.answers
  pub room : b.owes ≡ true → length b.answers.bytes.items ≤ most_held
