-- What holds of a source after one frame, or a part of one, was read from it; for the proofs.
use Rattle.std.specs.Prelude.{ℕ, ◌≡◌, ◌<◌, List, Option, Result, Ok, Err, true, false, length}
use Rattle.rv_frame.specs.Cut.{FitsLength, IsFrameBody, IsUnfinished, frame_bytes, length_bytes}
use Rattle.rv_frame.specs.Source.{SourceGives, SourceHasEnded, source_failed}
use Rattle.rv_frame.specs.declared.source.Source.{Source}
use Rattle.rv_client.specs.declared.fault.LinkFault.{LinkFault}
use Rattle.rv_client.specs.declared.fault.LinkFault.TheVariants.{ReadFault, WriteFault, Closed, BadFrame}
use Rattle.rv_client.specs.declared.fault.LinkFault.TheVariants.{BadBody, NoMemory}

module _ {R : Type 0} where
  -- no read failed, before and after
  pub record Unfailed (old new : Source R) : Type 0 where
    pub before : source_failed old ≡ false
    pub after : source_failed new ≡ false

  -- a read failed; a source that had failed before stays as it was
  pub record FailsAgain (old new : Source R) : Type 0 where
    pub failed : source_failed new ≡ true
    pub stays_failed : source_failed old ≡ true → new ≡ old

module _ {R : Type 0} (remaining : R → Option (List ℕ)) where
  -- why the source gave no more
  abbrev pub StopsFor : Source R → Source R → LinkFault → Type 0
  StopsFor old new ReadFault = FailsAgain old new
  StopsFor old new Closed = SourceHasEnded remaining new × Unfailed old new
  StopsFor old new (WriteFault sent) = ⊥
  StopsFor old new BadFrame = ⊥
  StopsFor old new BadBody = ⊥
  StopsFor old new NoMemory = ⊥

  -- the source gave fewer bytes than wanted
  pub record FallsShort (old new : Source R) (wanted : ℕ) (fault : LinkFault) : Type 0 where
    pub bytes : List ℕ
    pub fewer : length bytes < wanted
    pub given : SourceGives remaining old new bytes
    pub stops : StopsFor old new fault

  -- the source gave bytes that aren't a whole frame, and no more
  pub record BreaksOff (old new : Source R) (fault : LinkFault) : Type 0 where
    pub bytes : List ℕ
    pub unfinished : IsUnfinished bytes
    pub given : SourceGives remaining old new bytes
    pub stops : StopsFor old new fault

  -- the source gave a bad length, and no more
  pub record GivesBadLength (old new : Source R) : Type 0 where
    pub n : ℕ
    pub is_bad : ¬ FitsLength n
    pub given : SourceGives remaining old new (length_bytes n)
    pub unfailed : Unfailed old new

  -- the source gave the frame of this body
  pub record GivesFrame (old new : Source R) (body : List ℕ) : Type 0 where
    pub is_body : IsFrameBody body
    pub given : SourceGives remaining old new (frame_bytes body)
    pub unfailed : Unfailed old new

  abbrev pub ReadsFrame : {T : Type 0} → Source R → Source R → List ℕ → Result T LinkFault → Type 0
  ReadsFrame old new body (Ok done) = GivesFrame old new body
  ReadsFrame old new body (Err ReadFault) = BreaksOff old new ReadFault
  ReadsFrame old new body (Err Closed) = BreaksOff old new Closed
  ReadsFrame old new body (Err BadFrame) = GivesBadLength old new
  ReadsFrame old new body (Err (WriteFault sent)) = ⊥
  ReadsFrame old new body (Err BadBody) = ⊥
  ReadsFrame old new body (Err NoMemory) = ⊥
