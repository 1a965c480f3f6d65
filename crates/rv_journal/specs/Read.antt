-- A file whose lines were read and handed on.
use Rattle.std.specs.Prelude.{◌≡◌, ◌↔◌, ◌<◌, ◌≤◌, ℕ, List, true, length, IfErr, IfOk, IsErrOf, OnOk, Result}
use Rattle.rv_journal.specs.Cutter.{RefusesFront}
use Rattle.rv_journal.specs.Device.{Disk, WhereTold}
use Rattle.rv_journal.specs.Faults.{IfRefused, open_failed}
use Rattle.rv_journal.specs.Opened.{Looks, file_lines}
use Rattle.rv_journal.specs.Text.{HasZero}
use Rattle.rv_journal.specs.declared.fault.OpenFault.{OpenFault}
use Rattle.rv_journal.specs.declared.fault.OpenFault.TheVariants.{NotFilled}
use Rattle.rv_journal.specs.declared.reading.FileEnds.{FileEnds}

-- A call that reads a file and hands its lines on, whether or not it ends well.
pub record ReadsLines {D R F : Type 0} (disk : Disk D) (takes : R → List ℕ → R → Type 0)
    (refuses : R → List ℕ → F → Type 0) (old new : D) (was now : R) (result : Result FileEnds (OpenFault F)) :
    Type 0 where
  pub taken : OnOk result (WhereTold disk old (takes was (file_lines disk old) now))
  pub lines : IfOk result (λ ends. WhereTold disk old (ends.lines ≡ length (file_lines disk old)))
  pub file : IfOk result (λ ends. WhereTold disk old (ends.file ≡ length (disk.seen old)))
  pub within : IfOk result (λ ends. ends.lines ≤ ends.file)
  pub before_zero : IfOk result (λ ends. ends.has_zero ≡ true → ends.lines < ends.file)
  pub has_zero : IfOk result (λ ends. WhereTold disk old (ends.has_zero ≡ true ↔ HasZero (disk.seen old)))
  pub refused : IfErr result (λ fault. IfRefused fault (λ why.
      WhereTold disk old (RefusesFront refuses was (file_lines disk old) why)))
  pub looks : Looks disk old new
  pub cause : IsErrOf result open_failed → disk.failed new ≡ true
  pub filled : IsErrOf result NotFilled → ⊥
