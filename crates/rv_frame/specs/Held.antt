-- What the fields of a `Frames` hold, for the proofs: the public words are those of `Cut` and `Stream`.
use Rattle.std.specs.Prelude.{ℕ, ◌≡◌, ◌+◌, ◌*◌, ◌≤◌, List, [], ◌∷◌, length, take, drop, suc}
use Rattle.std.specs.Prelude.{IfSome, None, Option, Some}
use Rattle.std.specs.List.{All}
use Rattle.rv_frame.specs.declared.held.Head.{Head}
use Rattle.rv_frame.specs.declared.held.Head.TheVariants.{Bad as BadHead, Open as OpenHead, Whole}
use Rattle.rv_frame.specs.declared.held.Held.{Held}
use Rattle.rv_frame.specs.Cut.{Bad, BeginsBad, Cut, End, IsFrameBody, IsUnfinished, Open, frame_bytes}
use Rattle.rv_frame.specs.Cut.{row_bytes}
use Rattle.rv_frame.specs.Stream.{Stream}

-- the bodies of at most so many frames in a row
abbrev pub bodies_in : ℕ → List ℕ → List (List ℕ)
bodies_in (suc most) (high ∷ low ∷ bytes) =
    take (256 * high + low) bytes ∷ bodies_in most (drop (256 * high + low) bytes)
bodies_in most bytes = []

-- what follows whole frames, by the bad length that was met
abbrev pub end_of : Option ℕ → List ℕ → End
end_of None rest = Open rest
end_of (Some n) rest = Bad n

abbrev pub stream_of : Held → Stream
stream_of held = record {
  frames = bodies_in held.whole (take held.whole held.bytes.items);
  end = end_of held.bad (drop held.whole held.bytes.items);
}

-- the first bytes, so many, are those of whole frames
pub record FrontIsRow (bytes : List ℕ) (whole : ℕ) : Type 0 where
  pub bodies : List (List ℕ)
  pub within : whole ≤ length bytes
  pub row : take whole bytes ≡ row_bytes bodies
  pub fit : All IsFrameBody bodies

pub record IsSoundHeld (held : Held) : Type 0 where
  pub front : FrontIsRow held.bytes.items held.whole
  pub dropped : IfSome held.bad (λ n. length held.bytes.items ≡ held.whole)

-- a whole frame of so many bytes begins the bytes
pub record BeginsFrame (bytes : List ℕ) (size : ℕ) : Type 0 where
  pub body : List ℕ
  pub fits : IsFrameBody body
  pub size_is : size ≡ length body + 2
  pub within : size ≤ length bytes
  pub front : take size bytes ≡ frame_bytes body

abbrev pub HasHead : List ℕ → Head → Type 0
HasHead bytes (Whole size) = BeginsFrame bytes size
HasHead bytes OpenHead = IsUnfinished bytes
HasHead bytes (BadHead n) = BeginsBad bytes n

-- the bytes' cut, by how many bytes the whole frames have and the bad length after them
pub record CutAt (bytes : List ℕ) (whole : ℕ) (bad : Option ℕ) : Type 0 where
  pub front : FrontIsRow bytes whole
  pub cut : Cut bytes front.bodies (end_of bad (drop whole bytes))
