-- The past of a connection since it was opened: its frames and its answers, each in order, and what has left.
use Rattle.std.specs.Prelude.{ℕ, ◌≡◌, ◌+◌, ◌≤◌, Bool, false, true, List, [], ◌∷◌, ◌++◌, length, take}
use Rattle.std.specs.List.{All}
use Rattle.rv_frame.specs.Cut.{Bad, Cut, IsFrameBody, IsUnfinished, Open, frame_bytes, row_bytes}
use Rattle.rv_server_connections.specs.connection.Traffic.{AnswerByte, IsBad, IsDue, IsWholeFrame, Traffic}
use Rattle.rv_server_connections.specs.connection.Traffic.{bytes_of, resting}
use Rattle.rv_server_connections.specs.connection.Steps.{AnswersBy, Frees, Releases, TakesIn, fresh_traffic}
use Rattle.rv_server_connections.specs.connection.Steps.{input_ended, left_by, taken}

-- an answer's body, and how many entries it rests on
pub record Given : Type 0 where
  pub body : List ℕ
  pub rests_on : ℕ

-- the bytes of answers in a row
abbrev pub given_bytes : List Given → List AnswerByte
given_bytes [] = []
given_bytes (a ∷ answers) = resting a.rests_on (frame_bytes a.body) ++ given_bytes answers

pub record History : Type 0 where
  -- all bytes that were taken of its input
  pub came : List ℕ
  -- the bodies of the frames taken from these, and the answers to them
  pub frames : List (List ℕ)
  pub answers : List Given
  -- all bytes that left
  pub left : List ℕ

abbrev pub no_history : History
no_history = record { came = []; frames = []; answers = []; left = [] }

-- how many answers are owed
abbrev pub owed_count : Bool → ℕ
owed_count false = 0
owed_count true = 1

-- what came is the frames, and then the unread bytes; each frame has its answer, but for the last, where that
-- is owed; what left, and then what may leave, are exactly the bytes of the answers before the first answer
-- that rests on more entries than are written
pub record IsHistory (written : ℕ) (h : History) (t : Traffic) : Type 0 where
  pub input : h.came ≡ row_bytes h.frames ++ t.unread
  pub whole : All IsFrameBody h.frames
  pub answered : length h.frames ≡ length h.answers + owed_count t.owes
  pub front : List AnswerByte
  pub frees : Frees written (given_bytes h.answers) front t.behind
  pub leaves : bytes_of front ≡ h.left ++ t.ready

-- ---- each call keeps it

abbrev pub OpensHistory : Type 0
OpensHistory = (written : ℕ) → IsHistory written no_history fresh_traffic

abbrev pub KeepsPiece : Type 0
KeepsPiece = (written count : ℕ) (h : History) (old new : Traffic) (piece : List ℕ) → IsHistory written h old
    → TakesIn old piece count new → IsHistory written (record h { came = h.came ++ take count piece }) new

abbrev pub KeepsFrame : Type 0
KeepsFrame = (written : ℕ) (h : History) (old : Traffic) → IsHistory written h old → (due : IsDue old)
    → IsHistory written (record h { frames = h.frames ++ due.whole.body ∷ [] }) (taken old)

abbrev pub KeepsAnswer : Type 0
KeepsAnswer = (written entries : ℕ) (h : History) (old new : Traffic) (body : List ℕ)
    → IsHistory written h old
    → old.owes ≡ true → AnswersBy written old entries body new
    → IsHistory written (record h {
      answers = h.answers ++ (record { body = body; rests_on = entries }) ∷ [];
    }) new

abbrev pub KeepsRelease : Type 0
KeepsRelease = (before written : ℕ) (h : History) (old new : Traffic) → before ≤ written
    → IsHistory before h old
    → Releases written old new → IsHistory written h new

abbrev pub KeepsLeaving : Type 0
KeepsLeaving = (written count : ℕ) (h : History) (old : Traffic) → IsHistory written h old
    → count ≤ length old.ready
    → IsHistory written (record h { left = h.left ++ take count old.ready }) (left_by old count)

abbrev pub KeepsEnd : Type 0
KeepsEnd = (written : ℕ) (h : History) (old : Traffic) → IsHistory written h old
    → IsHistory written h (input_ended old)

-- ---- the frames are those of the cut of all that came, but for a whole frame that is unread

abbrev pub CutsOpen : Type 0
CutsOpen = (written : ℕ) (h : History) (t : Traffic) → IsHistory written h t → IsUnfinished t.unread
    → Cut h.came h.frames (Open t.unread)

abbrev pub CutsWhole : Type 0
CutsWhole = (written : ℕ) (h : History) (t : Traffic) → IsHistory written h t → (one : IsWholeFrame t.unread)
    → Cut h.came (h.frames ++ one.body ∷ []) (Open [])

abbrev pub CutsBad : Type 0
CutsBad = (written : ℕ) (h : History) (t : Traffic) → IsHistory written h t → IsBad t.unread
    → Cut h.came h.frames (Bad 0)
