-- What contracts see of a connection: its input that came, and its answers that are held.
use Rattle.std.specs.Prelude.{ℕ, ◌≡◌, ◌+◌, ◌≤◌, ◌⊎◌, Bool, false, true, List, ◌∷◌, ◌++◌}
use Rattle.std.specs.Prelude.{None, Option, Some, [], length, map}
use Rattle.rv_frame.specs.Cut.{IsFrameBody, IsUnfinished, frame_bytes, length_bytes}
use Rattle.rv_server_connections.specs.declared.connection.unread.Coming.{Coming}
use Rattle.rv_server_connections.specs.declared.connection.unread.Coming.TheVariants.{BadLength, Frame, Part}

-- a byte of an answer, and how many entries the answer rests on: so many must be written before the byte may
-- leave
pub record AnswerByte : Type 0 where
  pub byte : ℕ
  pub rests_on : ℕ

pub record Traffic : Type 0 where
  -- the bytes that came and weren't taken as a frame
  pub unread : List ℕ
  -- a frame was taken, and its answer isn't there yet
  pub owes : Bool
  -- the bytes of answers that may leave, in order
  pub ready : List ℕ
  -- the bytes of answers that may not leave yet, which come after those
  pub behind : List AnswerByte
  -- the input ended
  pub ended : Bool

-- these bytes, as bytes of answers that rest on so many entries
abbrev pub resting : ℕ → List ℕ → List AnswerByte
resting entries bytes = map (λ byte. record { byte = byte; rests_on = entries }) bytes

-- the bytes alone
abbrev pub bytes_of : List AnswerByte → List ℕ
bytes_of held = map (λ b. b.byte) held

-- what the first byte rests on
abbrev pub first_rests_on : List AnswerByte → Option ℕ
first_rests_on [] = None
first_rests_on (b ∷ behind) = Some b.rests_on

-- how many bytes of answers are held
abbrev pub held_count : Traffic → ℕ
held_count t = length t.ready + length t.behind

-- the most bytes of answers that may be held when a frame is taken: with the longest, all fit in 128 KiB
abbrev pub most_held : ℕ
most_held = 65534

-- the bytes are one whole frame
pub record IsWholeFrame (bytes : List ℕ) : Type 0 where
  pub body : List ℕ
  pub fits : IsFrameBody body
  pub frame : bytes ≡ frame_bytes body

-- the bytes are the only bad length, 0
abbrev pub IsBad : List ℕ → Type 0
IsBad bytes = bytes ≡ length_bytes 0

-- each proper front of them is unfinished: no frame ends there, and no length is bad
abbrev pub IsOneAtMost : List ℕ → Type 0
IsOneAtMost bytes = (front more : List ℕ) (byte : ℕ) → bytes ≡ front ++ byte ∷ more → IsUnfinished front

-- what the unread bytes are
abbrev pub IsComing : List ℕ → Coming → Type 0
IsComing bytes Part = IsUnfinished bytes
IsComing bytes (Frame body) = IsFrameBody body.now × (bytes ≡ frame_bytes body.now)
IsComing bytes BadLength = IsBad bytes

-- the unread frame is to be answered now: it is whole, no earlier answer is owed, and few enough bytes are
-- held
pub record IsDue (t : Traffic) : Type 0 where
  pub whole : IsWholeFrame t.unread
  pub none_owed : t.owes ≡ false
  pub room : held_count t ≤ most_held

-- more input may be offered
pub record MayOffer (t : Traffic) : Type 0 where
  pub none_owed : t.owes ≡ false
  pub room : held_count t ≤ most_held
  pub open_input : t.ended ≡ false
  pub good_length : ¬ IsBad t.unread

-- nothing is left to do: all answers left, none is owed, and the input can bring no more frames
pub record IsFinished (t : Traffic) : Type 0 where
  pub all_left : held_count t ≡ 0
  pub none_owed : t.owes ≡ false
  pub over : IsBad t.unread ⊎ ((t.ended ≡ true) × ¬ IsWholeFrame t.unread)
