-- The bytes of a file that are cut into lines, up to its first zero.
use Rattle.std.specs.Prelude.{◌≡◌, ◌+◌, ◌<◌, ◌≤◌, ◌++◌, ℕ, List, length, true, false, vec_len}
use Rattle.std.specs.Prelude.{IsErrOf, Result}
use Rattle.rv_journal.specs.Faults.{open_failed}
use Rattle.rv_journal.specs.Text.{before_zero, stored_lines, HasZero, IsLines}
use Rattle.rv_journal.specs.declared.cutter.LineCutter.{LineCutter}
use Rattle.rv_journal.specs.declared.fault.OpenFault.{OpenFault}
use Rattle.rv_journal.specs.declared.fault.OpenFault.TheVariants.{NotFilled}

-- The file begins with these bytes, and they were cut: until a zero comes, what stands after their lines is
-- kept.
pub record IsCutIntoLines (front : List ℕ) (cutter : LineCutter) : Type 0 where
  pub end : cutter.end ≡ length (stored_lines front)
  pub text : cutter.ended ≡ false → before_zero front ≡ front
  pub rest : cutter.ended ≡ false → stored_lines front ++ cutter.rest.items ≡ front
  pub zero : cutter.ended ≡ true → HasZero front

-- So many bytes were cut: its lines and what stands after them, and then the zero that it found.
pub record HasCut (count : ℕ) (cutter : LineCutter) : Type 0 where
  pub within : cutter.end + vec_len cutter.rest ≤ count
  pub zero : cutter.ended ≡ true → cutter.end + vec_len cutter.rest < count

-- so many bytes more were cut
abbrev pub CutsOn : ℕ → LineCutter → LineCutter → Type 0
CutsOn more old new = (count : ℕ) → HasCut count old → HasCut (count + more) new

-- And a reader took their lines.
pub record HasTakenLines {R : Type 0} (takes : R → List ℕ → R → Type 0) (first : R) (front : List ℕ)
    (cutter : LineCutter) (now : R) : Type 0 where
  pub cut : IsCutIntoLines front cutter
  pub lines : takes first (stored_lines front) now

-- It refused the first of these lines for this reason.
pub record RefusesFront {R F : Type 0} (refuses : R → List ℕ → F → Type 0) (reader : R) (lines : List ℕ)
    (why : F) : Type 0 where
  pub front : List ℕ
  pub more : List ℕ
  pub whole_lines : IsLines front
  pub whole : front ++ more ≡ lines
  pub refused : refuses reader front why

-- Once these bytes were cut as well, a reader has taken the lines of all of them.
abbrev pub TakesOn : {R : Type 0} → (R → List ℕ → R → Type 0) → List ℕ → LineCutter → R → LineCutter → R
    → Type 0
TakesOn {R = R} takes piece old was new now = (first : R) (front : List ℕ)
    → HasTakenLines takes first front old was → HasTakenLines takes first (front ++ piece) new now

-- while they were cut, it refused lines of them
abbrev pub RefusesOn : {R F : Type 0} → (R → List ℕ → R → Type 0) → (R → List ℕ → F → Type 0) → List ℕ
    → LineCutter → R → F → Type 0
RefusesOn {R = R} takes refuses piece old was why = (first : R) (front : List ℕ)
    → HasTakenLines takes first front old was → RefusesFront refuses first (stored_lines (front ++ piece)) why

-- It fails for want of memory, or where lines are refused, and says nothing of a device.
pub record FailsWithoutDevice {T F : Type 0} (result : Result T (OpenFault F)) : Type 0 where
  pub cause : IsErrOf result open_failed → ⊥
  pub filled : IsErrOf result NotFilled → ⊥
