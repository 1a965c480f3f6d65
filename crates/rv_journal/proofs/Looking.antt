-- Calls that only look at a file leave what a crash might have left before.
use Rattle.std.proofs.Common.{◌≡◌, inl, inr, ◌∙◌, ap}
use Rattle.rv_journal.specs.Device.{Disk, KeepsFile, LeavesOnly}
use Rattle.rv_journal.specs.Opened.{HasLinesOf, Looks}
use Rattle.rv_journal.specs.Text.{stored_lines}
use Rattle.rv_journal.proofs.Moments.{started, goes_on, joined, weaker}

pub looked : {D : Type 0} (disk : Disk D) (old new : D) → KeepsFile disk old new → Looks disk old new
looked disk old new keeps = record {
  tells = keeps.tells;
  seen = keeps.seen;
  crash = keeps.crash;
  any_moment = goes_on disk old old new (disk.may_leave old) (started disk old (disk.may_leave old)
      (λ c left. left)) keeps.time keeps.crash;
}

pub looks_on : {D : Type 0} (disk : Disk D) (old mid new : D) → Looks disk old mid → KeepsFile disk mid new
    → Looks disk old new
looks_on disk old mid new looks keeps = record {
  tells = keeps.tells ∙ looks.tells;
  seen = λ told. keeps.seen (looks.tells ∙ told) ∙ looks.seen told;
  crash = λ c left. looks.crash c (keeps.crash c left);
  any_moment = goes_on disk old mid new (disk.may_leave old) looks.any_moment keeps.time
      (λ c left. looks.crash c (keeps.crash c left));
}

pub looks_further : {D : Type 0} (disk : Disk D) (old mid new : D) → Looks disk old mid → Looks disk mid new
    → Looks disk old new
looks_further disk old mid new looks later = record {
  tells = later.tells ∙ looks.tells;
  seen = λ told. later.seen (looks.tells ∙ told) ∙ looks.seen told;
  crash = λ c left. looks.crash c (later.crash c left);
  any_moment = joined disk old mid new (disk.may_leave old) looks.any_moment
      (weaker disk mid new (disk.may_leave mid) (disk.may_leave old) later.any_moment looks.crash);
}

pub only_looked : {D : Type 0} (disk : Disk D) (old new : D) → Looks disk old new
    → LeavesOnly disk old new (HasLinesOf disk old)
only_looked disk old new looks = weaker disk old new (disk.may_leave old) (HasLinesOf disk old)
    looks.any_moment (λ c left. inl left)

-- and then the file is cleared after its lines
pub then_cleared : {D : Type 0} (disk : Disk D) (old mid new : D) → Looks disk old mid
    → disk.seen mid ≡ disk.seen old
    → LeavesOnly disk mid new (λ c. stored_lines c ≡ stored_lines (disk.seen mid))
    → LeavesOnly disk old new (HasLinesOf disk old)
then_cleared disk old mid new looks same only =
    joined disk old mid new (HasLinesOf disk old) (only_looked disk old mid looks)
    (weaker disk mid new (λ c. stored_lines c ≡ stored_lines (disk.seen mid)) (HasLinesOf disk old) only
    (λ c lines. inr (lines ∙ ap stored_lines same)))
