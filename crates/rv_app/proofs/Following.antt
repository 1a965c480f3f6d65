-- An account that grows: whole lines of its bytes were read, and all of them are legal, up to the first
-- fault.
use Rattle.std.proofs.Common.{◌≡◌, ◌≢◌, ◌-◌, ◌++◌, ◌∙◌, ℕ, List, [], Option, Some, ap, append-nil}
use Rattle.std.proofs.Common.{append_assoc, arith, false, true, inl, inr, length, refl, subst, sym, take}
use Rattle.std.proofs.Common.{IfSome, None}
use Rattle.std.proofs.lemmas.Bool.{cases_lt}
use Rattle.std.proofs.lemmas.List.{take-append-le}
use Rattle.rv_replies.specs.declared.findings.verdict.AccountFinding.{AccountFinding}
use Rattle.rv_replies.specs.declared.findings.verdict.AccountVerdict.TheVariants as verdict
use Rattle.rv_book.specs.lines.Lines.{lines}
use Rattle.rv_replies.specs.declared.records.Records.{Records}
use Rattle.rv_verify.specs.Ends.{AreWholeLines}
use Rattle.rv_verify.specs.Ongoing.{AreLegalUpTo, HasReadOn, HasReadPart, IsFoundOfLines}
use Rattle.rv_verify.specs.Stages.{HasFault, HasReadLines}
use Rattle.rv_verify.specs.Verdicts.{TellsLegalAccount}
use Rattle.rv_verify.specs.declared.ongoing.OngoingAudit.{OngoingAudit}
use Rattle.rv_verify.specs.declared.ongoing.Pause.TheVariants as pause
use Rattle.rv_verify.proofs.Joining.{lines_more, whole_append}
use Rattle.rv_app.specs.Verifying.{EndsAtFault}

-- the front of the bytes was read, and is legal; a piece is kept, and so much is ahead
pub record SoFar (bytes : List ℕ) (o : OngoingAudit) (r : Records) (left : Option (List ℕ)) : Type 0 where
  pub ahead : List ℕ
  pub is_left : left ≡ Some ahead
  pub front : List ℕ
  pub are_whole : AreWholeLines front
  pub parts : bytes ≡ front ++ (o.piece.items ++ ahead)
  pub read : HasReadPart (lines front) o r
  pub good : AreLegalUpTo (lines front) 0 (length (lines front))

-- where a reader tells what is left
pub some_is : {A : Type 0} (o : Option A) {P : A → Type 0} → ((x : A) → o ≡ Some x → P x) → IfSome o P
some_is None is = tt
some_is (Some x) is = is x refl

pub begins : (o : OngoingAudit) (r : Records) (all left : Option (List ℕ)) → left ≡ all
    → o.piece.items ≡ [] → HasReadPart [] o r → IfSome all (λ bytes. SoFar bytes o r left)
begins o r all left is none read = some_is all (λ bytes known. record {
  ahead = bytes;
  is_left = is ∙ known;
  front = [];
  are_whole = inl refl;
  parts = ap (λ l. l ++ bytes) (sym none);
  read = read;
  good = λ n some few. absurd (omega (arith, some, few));
})

-- lines that are legal, and more of them
legal_on : (ls more : List (List ℕ)) (to : ℕ) → AreLegalUpTo ls 0 (length ls)
    → AreLegalUpTo (ls ++ more) (length ls) to → AreLegalUpTo (ls ++ more) 0 to
legal_on ls more to old new n some few = elim (cases_lt (length ls) n) [
  | inl past ↦ new n past few
  | inr within ↦
      subst TellsLegalAccount (sym (take-append-le n ls more within)) (old n some within)
]

module _ {bytes : List ℕ} {o : OngoingAudit} {r : Records} {left : Option (List ℕ)}
    (so_far : SoFar bytes o r left) (new : OngoingAudit) (after : Records) (now : Option (List ℕ)) where
  abbrev Goes : pause.the_data → Type 0
  Goes why = HasReadOn (lines so_far.front) (o.piece.items ++ so_far.ahead) new after now why

  module _ {why : pause.the_data} (gone : Goes why) where
    abbrev more : List ℕ
    more = gone.run.more

    grown : lines (so_far.front ++ more) ≡ lines so_far.front ++ lines more
    grown = lines_more so_far.front more so_far.are_whole

    all_parts : bytes ≡ (so_far.front ++ more) ++ gone.rest
    all_parts =
        so_far.parts ∙ ap (λ l. so_far.front ++ l) gone.run.parts
        ∙ sym (append_assoc so_far.front more gone.rest)

    legal_to : (to : ℕ) → AreLegalUpTo (lines so_far.front ++ lines more) (length (lines so_far.front)) to
        → AreLegalUpTo (lines (so_far.front ++ more)) 0 to
    legal_to to legal =
        subst (λ (ls : List (List ℕ)). AreLegalUpTo ls 0 to) (sym grown)
        (legal_on (lines so_far.front) (lines more) to so_far.good legal)

    has_read : HasReadLines (lines (so_far.front ++ more)) new.stage after
    has_read = subst (λ (ls : List (List ℕ)). HasReadLines ls new.stage after) (sym grown) gone.run.read

  -- at the end of what there is
  at_end : Goes pause.End → SoFar bytes new after now
  at_end gone = record {
    ahead = [];
    is_left = gone.has_left.0;
    front = so_far.front ++ more gone;
    are_whole = whole_append so_far.front (more gone) so_far.are_whole gone.run.are_whole;
    parts = all_parts gone
        ∙ ap (λ l. (so_far.front ++ more gone) ++ l) (sym gone.has_left.1 ∙ sym (append-nil new.piece.items));
    read = record { read = has_read gone; no_lf = gone.no_lf };
    good = subst (λ n. AreLegalUpTo (lines (so_far.front ++ more gone)) 0 n) (sym (ap length (grown gone)))
        (legal_to gone (length (lines so_far.front ++ lines (more gone))) gone.no_fault);
  }

  pub goes_on : (why : pause.the_data) → why ≡ pause.End → Goes why → SoFar bytes new after now
  goes_on why is gone = at_end (subst Goes is gone)

  -- at a fault
  at_fault : Goes pause.Fault → (found : AccountFinding) → (found.torn ≡ true → new.piece.items ≢ [])
      → ((read : List (List ℕ)) (r : Records) → HasReadLines read new.stage r → IsFoundOfLines read r found)
      → (HasFault new.stage → found.verdict ≢ verdict.Legal) → EndsAtFault bytes after found
  at_fault gone found torn is broken = record {
    front = so_far.front ++ more gone;
    rest = gone.rest;
    parts = all_parts gone;
    are_whole = whole_append so_far.front (more gone) so_far.are_whole gone.run.are_whole;
    is = is (lines (so_far.front ++ more gone)) after (has_read gone);
    first = subst (λ n. AreLegalUpTo (lines (so_far.front ++ more gone)) 0 (n - 1))
        (sym (ap length (grown gone)))
        (legal_to gone (length (lines so_far.front ++ lines (more gone)) - 1) gone.no_fault);
    broken = broken gone.has_left.2;
    whole = elim found.torn as (λ b. (b ≡ true → new.piece.items ≢ []) → b ≡ false) [
      | true ↦ λ some. absurd (some refl gone.has_left.1)
      | false ↦ λ some. refl
    ] torn;
  }

  pub ends_at : (why : pause.the_data) → why ≡ pause.Fault → Goes why → (found : AccountFinding)
      → (found.torn ≡ true → new.piece.items ≢ [])
      → ((read : List (List ℕ)) (r : Records) → HasReadLines read new.stage r → IsFoundOfLines read r found)
      → (HasFault new.stage → found.verdict ≢ verdict.Legal) → EndsAtFault bytes after found
  ends_at why same gone = at_fault (subst Goes same gone)
