-- A machine of whole lines that bytes begin with.
use Rattle.std.proofs.Common.{◌≡◌, ◌≢◌, ◌++◌, ◌∙◌, ℕ, List, [], Option, ap, subst, sym}
use Rattle.std.specs.List.{All}
use Rattle.rv_book.specs.lines.Lines.{lines}
use Rattle.rv_machine.specs.declared.machine.Machine.{Machine}
use Rattle.rv_replies.specs.declared.records.Records.{Records}
use Rattle.rv_verify.specs.Ongoing.{HasReadOn}
use Rattle.rv_verify.specs.Stages.{HasReadLines}
use Rattle.rv_verify.specs.Standing.{HoldsAccountOf}
use Rattle.rv_verify.specs.declared.ongoing.OngoingAudit.{OngoingAudit}
use Rattle.rv_verify.specs.declared.ongoing.Pause.{Pause}
use Rattle.rv_verify.specs.declared.ongoing.Pause.TheVariants as pause
use Rattle.rv_app.specs.Compacting.{IsMachineOf}

pub machine_by : (bytes kept : List ℕ) (o : OngoingAudit) (r : Records) (left : Option (List ℕ)) (why : Pause)
    (machine : Machine) → kept ≡ [] → why ≡ pause.End → HasReadOn [] (kept ++ bytes) o r left why
    → ((read : List (List ℕ)) (x : Records) → HasReadLines read o.stage x → HoldsAccountOf read machine)
    → IsMachineOf bytes machine
machine_by bytes kept o r left why machine none ends on holds =
    let gone : HasReadOn [] (kept ++ bytes) o r left pause.End =
    subst (λ (p : Pause). HasReadOn [] (kept ++ bytes) o r left p) ends on in
    record {
      whole = gone.run.more;
      piece = gone.rest;
      ends = record {
        parts = sym (ap (λ (l : List ℕ). l ++ bytes) none) ∙ gone.run.parts;
        are_whole = gone.run.are_whole;
        no_lf = subst (λ (l : List ℕ). All (λ byte. byte ≢ 10) l) gone.has_left.1 gone.no_lf;
      };
      holds = holds (lines gone.run.more) r gone.run.read;
    }
