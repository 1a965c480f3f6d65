-- What calls leave of a device that may be frozen.
use Rattle.std.proofs.Common.{◌≡◌, ℕ, Bool, true, false, Result, List, refl}
use Rattle.std.specs.Prelude.{◌||◌}
use Rattle.rv_journal.specs.Device.{Disk, Elapses, HasCause, KeepsFile, WritesFile}
use Rattle.rv_journal.specs.Failing.{failing_disk}
use Rattle.rv_journal.specs.declared.device.DeviceFault.{DeviceFault}
use Rattle.rv_journal.specs.declared.testing.failing.FailingDevice.{FailingDevice}

either_first : (p q : Bool) → p ≡ true → (p || q) ≡ true
either_first true q is = refl
either_first false q is = absurd (cc)

either_last : (p q : Bool) → q ≡ true → (p || q) ≡ true
either_last true q is = refl
either_last false q is = is

either_on : (p q r s : Bool) → (p ≡ true → r ≡ true) → (q ≡ true → s ≡ true) → (p || q) ≡ true
    → (r || s) ≡ true
either_on true q r s first last is = either_first r s (first refl)
either_on false q r s first last is = either_last r s (last is)

module _ {D : Type 0} (disk : Disk D) (old new : FailingDevice D) where
  elapsed : Elapses disk old.device new.device → Elapses (failing_disk disk) old new
  elapsed time = record {
    same = time.same;
    later = time.later;
    nothing_else = time.nothing_else;
    keeps = time.keeps;
  }

  pub failing_kept : KeepsFile disk old.device new.device → KeepsFile (failing_disk disk) old new
  failing_kept keeps = record {
    tells = keeps.tells;
    seen = keeps.seen;
    crash = keeps.crash;
    time = elapsed keeps.time;
  }

  pub failing_written : (at : ℕ) (bytes : List ℕ) → WritesFile disk at bytes old.device new.device
      → WritesFile (failing_disk disk) at bytes old new
  failing_written at bytes writes = record {
    tells = writes.tells;
    others = writes.others;
    crash = writes.crash;
    time = elapsed writes.time;
  }

  pub failing_cause : {T : Type 0} (result : Result T DeviceFault)
      → (old.fuse.frozen ≡ true → new.fuse.frozen ≡ true) → HasCause disk old.device new.device result
      → HasCause (failing_disk disk) old new result
  failing_cause result lasts cause = record {
    failed = λ told. either_last new.fuse.frozen (disk.failed new.device) (cause.failed told);
    lasts = either_on old.fuse.frozen (disk.failed old.device) new.fuse.frozen (disk.failed new.device) lasts
        cause.lasts;
  }

  -- a call that is not made
  pub frozen_cause : {T : Type 0} (result : Result T DeviceFault) → new.fuse.frozen ≡ true
      → HasCause (failing_disk disk) old new result
  frozen_cause result frozen = record {
    failed = λ _. either_first new.fuse.frozen (disk.failed new.device) frozen;
    lasts = λ _. either_first new.fuse.frozen (disk.failed new.device) frozen;
  }
