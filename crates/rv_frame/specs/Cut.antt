-- The cut of bytes: the whole frames that they begin with, and what follows them.
use Rattle.std.specs.Prelude.{ℕ, ◌≡◌, ◌≤◌, ◌/◌, ◌%◌, List, [], ◌∷◌, ◌++◌, length}
use Rattle.std.specs.List.{All}

-- the length of a frame's body: 1 to 65,535 bytes, the most that two bytes can say
abbrev pub FitsLength : ℕ → Type 0
FitsLength n = (1 ≤ n) × (n ≤ 65535)

abbrev pub IsFrameBody : List ℕ → Type 0
IsFrameBody body = FitsLength (length body)

-- the two bytes of a length, the greater part first
abbrev pub length_bytes : ℕ → List ℕ
length_bytes n = (n / 256) ∷ (n % 256) ∷ []

-- the bytes of a frame: those of its body's length, and the body
abbrev pub frame_bytes : List ℕ → List ℕ
frame_bytes body = length_bytes (length body) ++ body

-- the bytes of frames in a row
abbrev pub row_bytes : List (List ℕ) → List ℕ
row_bytes [] = []
row_bytes (body ∷ bodies) = frame_bytes body ++ row_bytes bodies

-- what follows whole frames: bytes that end before a frame does, or a length that no frame has
pub data End : Type 0 where
  Open : (rest : List ℕ) → End
  Bad : (n : ℕ) → End

-- no whole frame begins the bytes, and their length bytes, if both are there, are good
pub record IsUnfinished (bytes : List ℕ) : Type 0 where
  pub no_frame : (body more : List ℕ) → IsFrameBody body → ¬ (bytes ≡ frame_bytes body ++ more)
  pub good_length : (n : ℕ) (more : List ℕ) → bytes ≡ length_bytes n ++ more → FitsLength n

-- a length that no frame has begins the bytes
pub record BeginsBad (bytes : List ℕ) (n : ℕ) : Type 0 where
  pub more : List ℕ
  pub parts : bytes ≡ length_bytes n ++ more
  pub is_bad : ¬ FitsLength n

abbrev pub EndsIn : List ℕ → End → Type 0
EndsIn bytes (Open rest) = (bytes ≡ rest) × IsUnfinished rest
EndsIn bytes (Bad n) = BeginsBad bytes n

-- the bytes are those of whole frames with these bodies, and what follows them
pub record Cut (bytes : List ℕ) (bodies : List (List ℕ)) (end : End) : Type 0 where
  pub after : List ℕ
  pub parts : bytes ≡ row_bytes bodies ++ after
  pub fit : All IsFrameBody bodies
  pub ends : EndsIn after end
