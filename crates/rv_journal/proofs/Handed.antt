-- What is said of a file whose lines were read: after a fault, and where a sync came first.
use Rattle.std.proofs.Common.{◌≡◌, true, ℕ, List, Result, Ok, Err, IsErrOf, length, take}
use Rattle.std.proofs.Common.{sym, ◌∙◌, ap, subst}
use Rattle.std.specs.Prelude.{◌↔◌}
use Rattle.rv_journal.specs.Cutter.{HasTakenLines, RefusesFront}
use Rattle.rv_journal.specs.Device.{Disk, KeepsFile, WhereTold}
use Rattle.rv_journal.specs.Faults.{IfRefused, open_failed}
use Rattle.rv_journal.specs.Opened.{Looks, file_lines}
use Rattle.rv_journal.specs.Read.{ReadsLines}
use Rattle.rv_journal.specs.Text.{stored_lines, HasZero}
use Rattle.rv_journal.specs.declared.cutter.LineCutter.{LineCutter}
use Rattle.rv_journal.specs.declared.fault.OpenFault.{OpenFault}
use Rattle.rv_journal.specs.declared.fault.OpenFault.TheVariants.{NotFilled}
use Rattle.rv_journal.specs.declared.reading.FileEnds.{FileEnds}
use Rattle.rv_journal.proofs.Causes.{if_refused, opened_as}
use Rattle.rv_journal.proofs.Looking.{looked, looks_further, looks_on}

module _ {D R F : Type 0} (disk : Disk D) (takes : R → List ℕ → R → Type 0) (refuses : R → List ℕ → F
    → Type 0)
    (old new : D) (was now : R) where
  -- a fault that another call told
  pub not_read : {T : Type 0} (fault : OpenFault F) → Looks disk old new
      → (IsErrOf {T = T} (Err fault) open_failed → disk.failed new ≡ true)
      → (IsErrOf {T = T} (Err fault) NotFilled → ⊥)
      → IfRefused fault (λ why. WhereTold disk old (RefusesFront refuses was (file_lines disk old) why))
      → ReadsLines disk takes refuses old new was now (Err fault)
  not_read fault looks cause filled refused = record {
    taken = tt;
    lines = tt;
    file = tt;
    within = tt;
    before_zero = tt;
    has_zero = tt;
    refused = refused;
    looks = looks;
    cause = λ is. cause (ap Err (ap (opened_as {T = FileEnds} {F = F}) is));
    filled = λ is. filled (ap Err (ap (opened_as {T = FileEnds} {F = F}) is));
  }

  -- and that ended the reading of a file
  pub stops : {T : Type 0} (mid : D) (at : ℕ) (cutter : LineCutter) (reader : R) (fault : OpenFault F)
      → Looks disk old mid → KeepsFile disk mid new
      → WhereTold disk old (HasTakenLines takes was (take at (disk.seen old)) cutter reader)
      → (IsErrOf {T = T} (Err fault) open_failed → disk.failed new ≡ true)
      → (IsErrOf {T = T} (Err fault) NotFilled → ⊥)
      → IfRefused fault (λ why. WhereTold disk mid ((first : R)
      → HasTakenLines takes first (take at (disk.seen mid)) cutter reader
      → RefusesFront refuses first (file_lines disk mid) why))
      → ReadsLines disk takes refuses old new was now (Err fault)
  stops mid at cutter reader fault looks keeps had cause filled refused =
      not_read fault (looks_on disk old mid new looks keeps) cause filled (if_refused fault _ _
      (λ why so told.
      let seen = looks.seen told in
      subst (λ (l : List ℕ). RefusesFront refuses was (stored_lines l) why) seen (so (looks.tells ∙ told) was
      (subst (λ (l : List ℕ). HasTakenLines takes was (take at l) cutter reader) (sym seen) (had told))))
      refused)

  -- it was synced, or read without a change, before
  pub read_on : (first : D) → KeepsFile disk first old → (result : Result FileEnds (OpenFault F))
      → ReadsLines disk takes refuses old new was now result
      → ReadsLines disk takes refuses first new was now result
  read_on first keeps (Ok ends) is = record {
    taken = λ told. subst (λ (l : List ℕ). takes was (stored_lines l) now) (keeps.seen told)
        (is.taken (keeps.tells ∙ told));
    lines = λ told. is.lines (keeps.tells ∙ told) ∙ ap (λ (l : List ℕ). length (stored_lines l))
        (keeps.seen told);
    file = λ told. is.file (keeps.tells ∙ told) ∙ ap (λ (l : List ℕ). length l) (keeps.seen told);
    within = is.within;
    before_zero = is.before_zero;
    has_zero = λ told. subst (λ (l : List ℕ). ends.has_zero ≡ true ↔ HasZero l) (keeps.seen told)
        (is.has_zero (keeps.tells ∙ told));
    refused = tt;
    looks = looks_further disk first old new (looked disk first old keeps) is.looks;
    cause = is.cause;
    filled = is.filled;
  }
  read_on first keeps (Err fault) is = record {
    taken = tt;
    lines = tt;
    file = tt;
    within = tt;
    before_zero = tt;
    has_zero = tt;
    refused = if_refused fault _ _ (λ why refused told. subst
        (λ (l : List ℕ). RefusesFront refuses was (stored_lines l) why) (keeps.seen told)
        (refused (keeps.tells ∙ told))) is.refused;
    looks = looks_further disk first old new (looked disk first old keeps) is.looks;
    cause = is.cause;
    filled = is.filled;
  }
