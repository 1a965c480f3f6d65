-- A stream of frames that is fed in pieces, as contracts see it, and what a piece does to it.
use Rattle.std.specs.Prelude.{ℕ, ◌≡◌, List, ◌++◌, length}
use Rattle.rv_frame.specs.Cut.{Bad, Cut, End, Open}

-- the bodies of the whole frames that can still be taken, and what follows them
pub record Stream : Type 0 where
  pub frames : List (List ℕ)
  pub end : End

-- how many bytes follow the last whole frame; after a bad length all is dropped
abbrev pub rest_length : End → ℕ
rest_length (Open rest) = length rest
rest_length (Bad n) = 0

abbrev pub IsOpen : End → Type 0
IsOpen (Open rest) = Unit {0}
IsOpen (Bad n) = ⊥

-- the frames grow by those of the cut of these bytes
pub record Grows (old : Stream) (bytes : List ℕ) (new : Stream) : Type 0 where
  pub more : List (List ℕ)
  pub cut : Cut bytes more new.end
  pub frames : new.frames ≡ old.frames ++ more

-- the piece goes on where the bytes before it ended, and changes nothing once a bad length was met
abbrev pub FeedsAt : End → Stream → List ℕ → Stream → Type 0
FeedsAt (Open rest) old piece new = Grows old (rest ++ piece) new
FeedsAt (Bad n) old piece new = new ≡ old

abbrev pub Feeds : Stream → List ℕ → Stream → Type 0
Feeds old piece new = FeedsAt old.end old piece new

-- all these bytes were fed: the frames of their cut are those that were taken and those that can still be
-- taken
abbrev pub HasFed : List ℕ → List (List ℕ) → Stream → Type 0
HasFed bytes taken stream = Cut bytes (taken ++ stream.frames) stream.end
