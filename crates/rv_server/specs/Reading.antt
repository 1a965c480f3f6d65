-- What is read of a connection: its bytes, the frames into which they are cut, and what follows these.
use Rattle.std.specs.Prelude.{ℕ, ◌≡◌, ◌<◌, ◌++◌, ◌∷◌, [], List, Option, None, Some, Result, Ok, Err, Vec}
use Rattle.std.specs.Prelude.{Bool, false, length, true}
use Rattle.std.specs.declared.alloc.Global.{Global}
use Rattle.std.specs.Io.KnownBytes.{Keeps}
use Rattle.std.specs.List.{All}
use Rattle.rv_frame.specs.Cut.{Bad, End, IsFrameBody, Open}
use Rattle.rv_frame.specs.Source.{SourceGives, SourceHasEnded, source_failed, source_remaining}
use Rattle.rv_frame.specs.Stream.{Feeds, HasFed, IsOpen, Stream, rest_length}
use Rattle.rv_frame.specs.declared.source.Source.{Source}
use Rattle.rv_server.specs.Works.{IsCut}
use Rattle.rv_server.specs.declared.fault.WorkFault.{WorkFault}
use Rattle.rv_server.specs.declared.fault.WorkFault.TheVariants.{BadLength, CutFrame, NoMemory, ReadFault}
use Rattle.rv_server.specs.declared.fault.WorkFault.TheVariants.{TooLong, WriteFault}

-- the bad length that was met, if the bytes end in one
abbrev pub IsBadOf : Option ℕ → End → Type 0
IsBadOf (Some n) end = end ≡ Bad n
IsBadOf None (Open rest) = Unit {0}
IsBadOf None (Bad n) = ⊥

-- what follows the whole frames are bytes
abbrev pub FollowBytes : End → Type 0
FollowBytes (Open rest) = All (λ (byte : ℕ). byte < 256) rest
FollowBytes (Bad n) = Unit {0}

-- the oldest whole frame was taken; or there is none, or memory was refused; for the proofs
abbrev pub TakesWhole : Stream → Stream → Result (Option (Vec ℕ Global)) WorkFault → Type 0
TakesWhole old new (Ok (Some body)) =
    (old.frames ≡ body.items ∷ new.frames) × (new.end ≡ old.end) × IsFrameBody body.items
TakesWhole old new (Ok None) = (new ≡ old) × (old.frames ≡ []) × IsOpen old.end
TakesWhole old new (Err (BadLength n)) = (new ≡ old) × (old.frames ≡ []) × (old.end ≡ Bad n)
TakesWhole old new (Err NoMemory) = new ≡ old
TakesWhole old new (Err ReadFault) = ⊥
TakesWhole old new (Err CutFrame) = ⊥
TakesWhole old new (Err (WriteFault sent)) = ⊥
TakesWhole old new (Err TooLong) = ⊥

-- if it is a write fault, the sink has failed
abbrev pub FailsAtSink : Bool → WorkFault → Type 0
FailsAtSink failed (WriteFault sent) = failed ≡ true
FailsAtSink failed _ = Unit {0}

module _ {R : Type 0} (remaining : R → Option (List ℕ)) where
  -- these bytes were read, and fed after all that was fed before them; and these were taken of the frames of
  -- them all
  pub record ReadsOn (before after : Source R) (old new : Stream) (more : List (List ℕ)) : Type 0 where
    pub bytes : List ℕ
    pub gives : SourceGives remaining before after bytes
    pub fed : (all : List ℕ) (taken : List (List ℕ)) → HasFed all taken old
        → HasFed (all ++ bytes) (taken ++ more) new

  -- all whole frames were taken, and this follows them
  pub record ReadsOut (before after : Source R) (old new : Stream) (IsLeft : End → Type 0) : Type 0 where
    pub reads : ReadsOn before after old new []
    pub all_taken : new.frames ≡ []
    pub left : IsLeft new.end

  -- a piece was read and fed, and what follows the whole frames is short; or none came, at the end; or memory
  -- was refused for the piece that was read; for the proofs
  abbrev pub ReadsPiece : Source R → Source R → Stream → Stream → Result Bool WorkFault → Type 0
  ReadsPiece before after old new (Ok true) = (piece : List ℕ) × SourceGives remaining before after piece
      × (0 < length piece) × Feeds old piece new × (rest_length new.end < 65537)
  ReadsPiece before after old new (Ok false) =
      SourceGives remaining before after [] × SourceHasEnded remaining after × (new ≡ old)
  ReadsPiece before after old new (Err ReadFault) =
      Keeps (source_remaining remaining before) (source_remaining remaining after)
      × (source_failed after ≡ true) × (new ≡ old)
  ReadsPiece before after old new (Err NoMemory) =
      (piece : List ℕ) × SourceGives remaining before after piece × (new ≡ old)
  ReadsPiece before after old new (Err CutFrame) = ⊥
  ReadsPiece before after old new (Err (BadLength n)) = ⊥
  ReadsPiece before after old new (Err (WriteFault sent)) = ⊥
  ReadsPiece before after old new (Err TooLong) = ⊥

  -- the next frame was taken, or why there is none; a piece for which memory was refused is read and lost,
  -- so the stream that was met need not be the one that is left; a write fault is a flush's, before a read
  abbrev pub TakesFrame : Source R → Source R → Stream → Stream → Result (Option (Vec ℕ Global)) WorkFault
      → Type 0
  TakesFrame before after old new (Ok (Some body)) =
      ReadsOn before after old new (body.items ∷ []) × IsFrameBody body.items
  TakesFrame before after old new (Ok None) =
      ReadsOut before after old new (λ end. end ≡ Open []) × SourceHasEnded remaining after
  TakesFrame before after old new (Err ReadFault) =
      ReadsOut before after old new (λ end. Unit {0}) × (source_failed after ≡ true)
  TakesFrame before after old new (Err CutFrame) =
      ReadsOut before after old new IsCut × SourceHasEnded remaining after
  TakesFrame before after old new (Err (BadLength n)) = ReadsOut before after old new (λ end. end ≡ Bad n)
  TakesFrame before after old new (Err NoMemory) = (met : Stream) × ReadsOn before after old met []
  TakesFrame before after old new (Err (WriteFault sent)) =
      (sent ≡ 0) × ReadsOut before after old new (λ end. Unit {0})
  TakesFrame before after old new (Err TooLong) = ⊥

  -- no end was found: a further frame was taken, or none was, and why
  abbrev pub MeetsNoEnd : Source R → Source R → Stream → Stream → WorkFault → Type 0
  MeetsNoEnd before after old new TooLong = (body : List ℕ) × ReadsOn before after old new (body ∷ [])
  MeetsNoEnd before after old new fault = TakesFrame before after old new (Err fault)
