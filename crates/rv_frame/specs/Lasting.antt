-- Devices whose bytes last: what they hold, and what a crash may have left of it.
use Rattle.std.specs.Prelude.{◌≡◌, ◌⊎◌, ◌≤◌, ◌++◌, ℕ, Bool, false, List, Option, Some, take}
use Rattle.std.specs.Io.KnownBytes.{Appends}
use Rattle.rv_frame.specs.declared.sink.Sink.{Sink}
use Rattle.rv_frame.specs.Sink.{sink_contents, sink_failed}

-- What such a device tells of itself, as functions of it.
pub record LastingDevice (L : Type 0) : Type 1 where
  -- the bytes that it holds, where they are known
  pub contents : L → Option (List ℕ)
  -- whether it has failed, and takes nothing more
  pub failed : L → Bool
  -- the moment, a number that does not fall
  pub moment : L → ℕ
  -- the bytes that a crash from that moment on might have left, during a call or between two
  pub left_since : L → ℕ → List ℕ → Type 0

-- it took exactly these bytes, where what it holds is known
abbrev pub TakesBytes : {L : Type 0} → LastingDevice L → L → L → List ℕ → Type 0
TakesBytes lasts old new bytes = Appends (lasts.contents old) (lasts.contents new) bytes

-- a crash now leaves the bytes that it holds
abbrev pub LeavesHeld : {L : Type 0} → LastingDevice L → L → Type 0
LeavesHeld lasts device = (held left : List ℕ) → lasts.contents device ≡ Some held
    → lasts.left_since device (lasts.moment device) left → left ≡ held

-- A crash at any moment since old leaves bytes that have P.
pub record LeavesSince {L : Type 0} (lasts : LastingDevice L) (old new : L) (P : List ℕ → Type 0) : Type 0
  where
    pub later : lasts.moment old ≤ lasts.moment new
    pub each : (left : List ℕ) → lasts.left_since new (lasts.moment old) left → P left
    -- for a run that began earlier
    pub before : (t : ℕ) (left : List ℕ) → t ≤ lasts.moment old → lasts.left_since new t left
        → lasts.left_since old t left ⊎ P left

-- these bytes, and after them a front of those
abbrev pub HasFrontAfter : List ℕ → List ℕ → List ℕ → Type 0
HasFrontAfter held bytes left = (n : ℕ) × (left ≡ held ++ take n bytes)

-- where it hasn't failed, a crash at any moment since old leaves what it held then, and a front of these
-- bytes
abbrev pub LeavesFront : {L : Type 0} → LastingDevice L → L → List ℕ → L → Type 0
LeavesFront lasts old bytes new = (held : List ℕ) → lasts.contents old ≡ Some held → lasts.failed old ≡ false
    → LeavesSince lasts old new (HasFrontAfter held bytes)

-- a sink over a writer, which tells of no crash
abbrev pub sink_lasts : {W : Type 0} → (W → Option (List ℕ)) → LastingDevice (Sink W)
sink_lasts contents = record {
  contents = sink_contents contents;
  failed = sink_failed;
  moment = λ _. 0;
  left_since = λ _ _ _. ⊥;
}
