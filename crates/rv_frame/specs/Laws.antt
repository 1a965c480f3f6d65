-- What holds of cuts and of streams as such.
use Rattle.std.specs.Prelude.{ℕ, ◌≡◌, List, [], ◌∷◌, ◌++◌}
use Rattle.rv_frame.specs.Cut.{Cut, End}
use Rattle.rv_frame.specs.Stream.{Feeds, HasFed, Stream}

-- bytes have at most one cut
abbrev pub OneCut : Type 0
OneCut = (bytes : List ℕ) (a b : List (List ℕ)) (end end' : End) → Cut bytes a end → Cut bytes b end'
    → (a ≡ b) × (end ≡ end')

-- pieces that are fed one after the other are fed as one
abbrev pub PiecesJoin : Type 0
PiecesJoin = (a b c : Stream) (first second : List ℕ) → Feeds a first b → Feeds b second c
    → Feeds a (first ++ second) c

-- whatever was fed and taken before: after a further piece the frames are those of the cut of all bytes
abbrev pub FedIsCut : Type 0
FedIsCut = (bytes piece : List ℕ) (taken : List (List ℕ)) (old new : Stream) → HasFed bytes taken old
    → Feeds old piece new → HasFed (bytes ++ piece) taken new

-- and so they are after the oldest frame was taken
abbrev pub TakenIsCut : Type 0
TakenIsCut = (bytes body : List ℕ) (taken : List (List ℕ)) (old new : Stream) → HasFed bytes taken old
    → old.frames ≡ body ∷ new.frames → new.end ≡ old.end → HasFed bytes (taken ++ body ∷ []) new
