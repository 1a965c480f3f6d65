-- What is told of bytes, of which whole lines were read, and a last piece is kept.
use Rattle.std.proofs.Common.{◌≡◌, ◌≢◌, ◌∷◌, ◌++◌, ◌∙◌, ℕ, List, [], Bool, true, false}
use Rattle.std.proofs.Common.{Option, ap, append-nil, inl, inr, refl, subst, sym}
use Rattle.rv_account.specs.declared.entry.Entry.{Entry}
use Rattle.rv_book.specs.lines.Lines.{lines}
use Rattle.rv_book.proofs.OfLines.Cutting.{Lacks}
use Rattle.rv_replies.specs.declared.records.Records.{Records}
use Rattle.rv_verify.specs.Ends.{AreWholeLines, EndsWithPiece, HoldsOfLines, IsTornBehind, IsTornWith}
use Rattle.rv_verify.specs.Ends.{IsWholeWith}
use Rattle.rv_verify.specs.Noting.{HasNotedOf}
use Rattle.rv_verify.specs.Ongoing.{HasGoneOn, HasLeft, HasReadPart, IsFoundOfBytes}
use Rattle.rv_verify.specs.Verdicts.{IsVerdictOn, ReadsLongEntry}
use Rattle.rv_verify.specs.declared.ongoing.OngoingAudit.{OngoingAudit}
use Rattle.rv_verify.specs.declared.ongoing.Pause.{Pause}
use Rattle.rv_verify.specs.declared.ongoing.Pause.TheVariants as pause
use Rattle.rv_verify.specs.declared.ongoing.Until.TheVariants as far
use Rattle.rv_replies.specs.declared.findings.verdict.AccountFinding.{AccountFinding}
use Rattle.rv_verify.proofs.Joining.{piece_more}

module _ (whole piece : List ℕ) (are : AreWholeLines whole) (lacks : Lacks 10 piece) where
  ends : EndsWithPiece (whole ++ piece) whole piece
  ends = record { parts = refl; are_whole = are; no_lf = lacks }

  module _ (Holds : List (List ℕ) → Type 0) where
    -- no piece is kept
    no_piece : piece ≡ [] → Holds (lines whole) → IsWholeWith (whole ++ piece) Holds
    no_piece none holds = record {
      whole = whole;
      piece = piece;
      ends = ends;
      untorn = λ torn. torn.some none;
      holds = subst (λ p. Holds (lines (whole ++ p))) (sym none)
          (subst (λ w. Holds (lines w)) (sym (append-nil whole)) holds);
    }

    -- a torn one
    torn_piece : IsTornBehind (lines whole) piece → Holds (lines whole) → IsTornWith (whole ++ piece) Holds
    torn_piece torn holds =
        record { whole = whole; piece = piece; ends = ends; torn = torn; holds = holds }

    -- one that is read as an entry
    last_piece : piece ≢ [] → lines whole ≢ [] → (e : Entry) → ReadsLongEntry piece e
        → Holds (lines whole ++ piece ∷ []) → IsWholeWith (whole ++ piece) Holds
    last_piece some behind e reads holds = record {
      whole = whole;
      piece = piece;
      ends = ends;
      untorn = λ torn. elim torn.torn [
        | inl none ↦ behind none
        | inr no_entry ↦ no_entry e reads
      ];
      holds = subst Holds (sym (piece_more whole piece are (record { some = some; no_lf = lacks }))) holds;
    }

  module _ (r : Records) (found : AccountFinding) where
    abbrev IsTold : List (List ℕ) → Type 0
    IsTold ls = IsVerdictOn ls found.verdict

    abbrev IsNoted : List (List ℕ) → Type 0
    IsNoted ls = HasNotedOf ls found.epoch r

    both : (torn : Bool) → found.torn ≡ torn → HoldsOfLines torn (whole ++ piece) IsTold
        → HoldsOfLines torn (whole ++ piece) IsNoted → IsFoundOfBytes (whole ++ piece) r found
    both torn is told noted = (
      subst (λ t. HoldsOfLines t (whole ++ piece) IsTold) (sym is) told,
      subst (λ t. HoldsOfLines t (whole ++ piece) IsNoted) (sym is) noted,
    )

    pub found_empty : found.torn ≡ false → piece ≡ [] → IsTold (lines whole) → IsNoted (lines whole)
        → IsFoundOfBytes (whole ++ piece) r found
    found_empty is none told noted =
        both false is (no_piece IsTold none told) (no_piece IsNoted none noted)

    pub found_torn : found.torn ≡ true → IsTornBehind (lines whole) piece → IsTold (lines whole)
        → IsNoted (lines whole) → IsFoundOfBytes (whole ++ piece) r found
    found_torn is torn told noted =
        both true is (torn_piece IsTold torn told) (torn_piece IsNoted torn noted)

    pub found_last : found.torn ≡ false → piece ≢ [] → lines whole ≢ [] → (e : Entry) → ReadsLongEntry piece e
        → IsTold (lines whole ++ piece ∷ []) → IsNoted (lines whole ++ piece ∷ [])
        → IsFoundOfBytes (whole ++ piece) r found
    found_last is some behind e reads told noted =
        both false is (last_piece IsTold some behind e reads told) (last_piece IsNoted some behind e reads
        noted)

-- all bytes are whole lines, which were read, and the piece that is kept
pub record Reached (bytes : List ℕ) (o : OngoingAudit) (r : Records) : Type 0 where
  pub whole : List ℕ
  pub are_whole : AreWholeLines whole
  pub parts : bytes ≡ whole ++ o.piece.items
  pub read : HasReadPart (lines whole) o r

-- so they are after a reading to the end
pub reached : (begun bytes : List ℕ) (o : OngoingAudit) (r : Records) (left : Option (List ℕ)) (why : Pause)
    → begun ≡ [] → why ≡ pause.End → HasGoneOn far.End [] (begun ++ bytes) o r left why → Reached bytes o r
reached begun bytes o r left why none ends went =
    let kept : HasLeft o went.rest left pause.End =
    subst (λ (w : Pause). HasLeft o went.rest left w) ends went.has_left in
    record {
      whole = went.run.more;
      are_whole = went.run.are_whole;
      parts = ap (λ p. p ++ bytes) (sym none) ∙ went.run.parts ∙ ap (λ l. went.run.more ++ l) (sym kept.1);
      read = record { read = went.run.read; no_lf = went.no_lf };
    }
