-- What an audit makes of whole lines.
use Rattle.std.proofs.Common.{◌≡◌, ◌≢◌, ◌++◌, ◌∙◌, ℕ, List, [], Option, ap, append-nil, append_assoc}
use Rattle.std.proofs.Common.{subst, sym}
use Rattle.std.specs.List.{All}
use Rattle.std.specs.Prelude.{Err, IfErr, Ok, Result}
use Rattle.rv_journal.specs.Text.{IsLines}
use Rattle.rv_book.specs.lines.Lines.{lines}
use Rattle.rv_replies.specs.declared.findings.verdict.AccountFinding.{AccountFinding}
use Rattle.rv_replies.specs.declared.findings.verdict.AccountVerdict.TheVariants as verdict
use Rattle.rv_replies.specs.declared.records.Records.{Records}
use Rattle.rv_verify.specs.Ongoing.{HasReadOn, IsFoundOfLines}
use Rattle.rv_verify.specs.Stages.{HasFault, HasReadLines}
use Rattle.rv_verify.specs.declared.ongoing.OngoingAudit.{OngoingAudit}
use Rattle.rv_verify.specs.declared.ongoing.Pause.{Pause}
use Rattle.rv_verify.specs.declared.ongoing.Pause.TheVariants as pause
use Rattle.rv_verify.proofs.Joining.{lines_more}
use Rattle.rv_store.specs.Reading.{HasReadWhole, IsNoAccount}
use Rattle.rv_store.specs.WholeLines.{none_left}

module _ (read : List (List ℕ)) (text : List ℕ) (later : OngoingAudit) (r : Records)
    (left : Option (List ℕ)) where
  -- an audit that kept nothing reads this text alone, and pauses so
  pub reads_text : (kept : List ℕ) (why same : Pause) → kept ≡ [] → why ≡ same
      → HasReadOn read (kept ++ text) later r left why → HasReadOn read text later r left same
  reads_text kept why same none is on =
      subst (λ (p : Pause). HasReadOn read text later r left p) is
      (subst (λ (l : List ℕ). HasReadOn read (l ++ text) later r left why) none on)

  -- to their end
  pub ends_whole : IsLines text → HasReadOn read text later r left pause.End
      → HasReadWhole (read ++ lines text) later r
  ends_whole is on =
      let kept = on.has_left.1 in
      let none : on.rest ≡ [] = none_left text on.run.more on.rest is on.run.parts
      (subst (λ (l : List ℕ). All (λ byte. byte ≢ 10) l) kept on.no_lf) in
      let same : on.run.more ≡ text =
      sym (on.run.parts ∙ ap (λ (l : List ℕ). on.run.more ++ l) none ∙ append-nil on.run.more) in
      record {
        part = record {
          read = subst (λ (l : List ℕ). HasReadLines (read ++ lines l) later.stage r) same on.run.read;
          no_lf = on.no_lf;
        };
        none_kept = kept ∙ none;
      }

  -- or to a fault
  pub ends_bad : (found : AccountFinding) → HasReadOn read text later r left pause.Fault
      → ((ls : List (List ℕ)) (x : Records) → HasReadLines ls later.stage x → IsFoundOfLines ls x found)
      → (HasFault later.stage → found.verdict ≢ verdict.Legal) → IsNoAccount (read ++ lines text) found
  ends_bad found on tells faulty = record {
    front = read ++ lines on.run.more;
    more = lines on.rest;
    parts = ap (λ (l : List (List ℕ)). read ++ l)
        (ap lines on.run.parts ∙ lines_more on.run.more on.rest on.run.are_whole)
        ∙ sym (append_assoc read (lines on.run.more) (lines on.rest));
    told = (tells (read ++ lines on.run.more) r on.run.read).verdict;
    illegal = faulty on.has_left.2;
  }

-- ---- no account

pub no_account : (read : List (List ℕ)) (r : Records) (found : AccountFinding) → IsFoundOfLines read r found
    → (found.verdict ≢ verdict.Legal) → IsNoAccount read found
no_account read r found is illegal = record {
  front = read;
  more = [];
  parts = sym (append-nil read);
  told = is.verdict;
  illegal = illegal;
}

pub both_err : {T E : Type 0} (result : Result T E) (P Q R : E → Type 0) → ((e : E) → P e → Q e → R e)
    → IfErr result P → IfErr result Q → IfErr result R
both_err (Ok x) P Q R so p q = tt
both_err (Err e) P Q R so p q = so e p q
