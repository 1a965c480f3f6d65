-- What was read to its end, of which whole lines alone count.
use Rattle.std.proofs.Common.{◌≡◌, ◌++◌, ℕ, List, [], Option, subst}
use Rattle.std.specs.Prelude.{◌≢◌, ◌↔◌, IsTrue}
use Rattle.std.specs.List.{All}
use Rattle.rv_replies.specs.declared.findings.verdict.AccountFinding.{AccountFinding}
use Rattle.rv_replies.specs.declared.records.Records.{Records}
use Rattle.rv_verify.specs.Ongoing.{HasGoneOn, IsFoundOfLines, IsFoundOfWholeLines}
use Rattle.rv_verify.specs.Stages.{HasReadLines}
use Rattle.rv_verify.specs.declared.ongoing.OngoingAudit.{OngoingAudit}
use Rattle.rv_verify.specs.declared.ongoing.Pause.{Pause}
use Rattle.rv_verify.specs.declared.ongoing.Pause.TheVariants as pause
use Rattle.rv_verify.specs.declared.ongoing.Until.TheVariants as far

module _ (bytes : List ℕ) (audit : OngoingAudit) (r : Records) (left : Option (List ℕ)) (found :
    AccountFinding) where
  at_end : HasGoneOn far.End [] bytes audit r left pause.End
      → ((read : List (List ℕ)) (x : Records) → HasReadLines read audit.stage x → IsFoundOfLines read x found)
      → (IsTrue found.torn ↔ (audit.piece.items ≢ [])) → IsFoundOfWholeLines bytes r found
  at_end on tells torn = record {
    whole = on.run.more;
    rest = on.rest;
    parts = on.run.parts;
    are_whole = on.run.are_whole;
    no_lf = subst (λ (l : List ℕ). All (λ byte. byte ≢ 10) l) on.has_left.1 on.no_lf;
    is = tells _ r on.run.read;
    torn = subst (λ (l : List ℕ). IsTrue found.torn ↔ (l ≢ [])) on.has_left.1 torn;
  }

  pub whole_found : (kept : List ℕ) (why : Pause) → kept ≡ [] → why ≡ pause.End
      → HasGoneOn far.End [] (kept ++ bytes) audit r left why
      → ((read : List (List ℕ)) (x : Records) → HasReadLines read audit.stage x → IsFoundOfLines read x found)
      → (IsTrue found.torn ↔ (audit.piece.items ≢ [])) → IsFoundOfWholeLines bytes r found
  whole_found kept why none ends on tells torn = at_end
      (subst (λ (p : Pause). HasGoneOn far.End [] bytes audit r left p) ends
      (subst (λ (l : List ℕ). HasGoneOn far.End [] (l ++ bytes) audit r left why) none on)) tells torn
