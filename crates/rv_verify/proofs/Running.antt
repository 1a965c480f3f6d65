-- How far the lines of a reader are read, turn by turn.
use Rattle.std.proofs.Common.{◌≡◌, ◌≢◌, ◌≤◌, ◌-◌, ◌∷◌, ◌++◌, ◌∙◌, ℕ, List, [], Option, None, Some}
use Rattle.std.proofs.Common.{Bool, true, false}
use Rattle.std.proofs.Common.{ap, append_assoc, append-nil, arith, inl, inr, IsSome, length, length-append}
use Rattle.std.proofs.Common.{refl, subst, sym, take}
use Rattle.std.proofs.lemmas.Bool.{cases_lt}
use Rattle.std.proofs.lemmas.List.Elements.{All-nil}
use Rattle.std.proofs.lemmas.List.{take_all, take-append-le}
use Rattle.rv_book.specs.lines.Lines.{lines}
use Rattle.rv_book.proofs.OfLines.Cutting.{Lacks}
use Rattle.rv_replies.specs.declared.records.Records.{Records}
use Rattle.rv_verify.specs.Ongoing.{HadNoFault, HasGoneOn, HasReadPart, HasRun}
use Rattle.rv_verify.specs.Reading.{HasNextPart}
use Rattle.rv_verify.specs.Stages.{HasFault, HasReadLines, HasReadNoting, StandsBehind}
use Rattle.rv_verify.specs.Standing.{StandsAt}
use Rattle.rv_verify.specs.Verdicts.{ReadsLong, TellsLegalAccount}
use Rattle.rv_verify.specs.declared.ongoing.OngoingAudit.{OngoingAudit}
use Rattle.rv_verify.specs.declared.ongoing.Pause.TheVariants as pause
use Rattle.rv_verify.specs.declared.ongoing.Until.{Until}
use Rattle.rv_verify.specs.declared.ongoing.Until.TheVariants as far
use Rattle.rv_verify.specs.declared.parts.NextPart.TheVariants as next
use Rattle.rv_verify.specs.declared.stage.Stage.{Stage}
use Rattle.rv_verify.specs.declared.verifier.StopReason.{StopReason}
use Rattle.rv_verify.specs.declared.verifier.Verifier.{Verifier}
use Rattle.rv_verify.proofs.Joining.{line_more, whole_more}

-- ---- no fault

legal_by : (ls : List (List ℕ)) (v : Verifier) (r : Records) (reason : Option StopReason) → v.stop ≡ reason
    → (IsSome reason → ⊥) → HasReadNoting ls v r → TellsLegalAccount ls
legal_by ls v r None is none has =
    let read = has.read in
    let stands : read.account ≡ read.passed =
    subst (λ s. StandsAt read.passed read.account s) is read.stands in
    record {
      account = read.passed;
      read = subst (ReadsLong ls) stands read.read;
      legal = read.holds.legal;
      had_room = read.holds.had_room;
    }
legal_by ls v r (Some reason) is none has = absurd (none refl)

-- some lines with no fault are a legal account
unfaulted : (ls : List (List ℕ)) (o : Option Verifier) (bad : Option ℕ) (r : Records)
    → (HasFault (record { verifier = o; bad = bad }) → ⊥) → (ls ≡ [] → ⊥) → StandsBehind ls o bad r
    → TellsLegalAccount ls
unfaulted ls None None r none some stands = absurd (some stands.0)
unfaulted ls None (Some n) r none some stands = absurd (none (inl refl))
unfaulted ls (Some v) None r none some stands = legal_by ls v r v.stop refl (λ is. none (inr is)) stands
unfaulted ls (Some v) (Some n) r none some stands = absurd (none (inl refl))

false_true : false ≡ true → ⊥
false_true same = cc

pub not_both : (b : Bool) → b ≡ true → b ≡ false → ⊥
not_both true is not = false_true (sym not)
not_both false is not = false_true is

-- ---- a turn

-- what a turn of the reading goes on from
pub record Runs (until : Until) (before : List (List ℕ)) (bytes : List ℕ) (o : OngoingAudit) (r : Records)
    (left : Option (List ℕ)) : Type 0 where
  pub ahead : List ℕ
  pub is_left : left ≡ Some ahead
  pub rest : List ℕ
  pub is_rest : rest ≡ o.piece.items ++ ahead
  pub run : HasRun before bytes o.stage r rest
  pub no_lf : Lacks 10 o.piece.items
  pub no_fault : HadNoFault until (before ++ lines run.more) (length before)
      (length (before ++ lines run.more))

nothing_between : (until : Until) (ls : List (List ℕ)) (n : ℕ) → HadNoFault until ls n n
nothing_between far.End ls n = tt
nothing_between far.Fault ls n = λ k more most. absurd (omega (arith, more, most))

pub runs_first : (until : Until) (before : List (List ℕ)) (bytes : List ℕ) (o : OngoingAudit) (r : Records)
    (left : Option (List ℕ)) → HasReadPart before o r → left ≡ Some bytes
    → Runs until before (o.piece.items ++ bytes) o r left
runs_first until before bytes o r left has is = record {
  ahead = bytes;
  is_left = is;
  rest = o.piece.items ++ bytes;
  is_rest = refl;
  run = record {
    more = [];
    parts = refl;
    are_whole = inl refl;
    read = subst (λ ls. HasReadLines ls o.stage r) (sym (append-nil before)) has.read;
  };
  no_lf = has.no_lf;
  no_fault = subst (λ ls. HadNoFault until ls (length before) (length ls)) (sym (append-nil before))
      (nothing_between until before (length before));
}

-- a list with one more, and its fronts
front_kept : (ls : List (List ℕ)) (line : List ℕ) (n : ℕ) → n ≤ length ls
    → TellsLegalAccount (take n ls) → TellsLegalAccount (take n (ls ++ line ∷ []))
front_kept ls line n within is = subst TellsLegalAccount (sym (take-append-le n ls (line ∷ []) within)) is

kept_up_to : (until : Until) (ls : List (List ℕ)) (line : List ℕ) (from : ℕ)
    → HadNoFault until ls from (length ls)
    → HadNoFault until (ls ++ line ∷ []) from (length (ls ++ line ∷ []) - 1)
kept_up_to far.End ls line from was = tt
kept_up_to far.Fault ls line from was = λ n more most.
    let within : n ≤ length ls = omega (arith, most, length-append ls (line ∷ [])) in
    front_kept ls line n within (was n more within)

more_up_to : (until : Until) (ls : List (List ℕ)) (line : List ℕ) (from : ℕ)
    → HadNoFault until ls from (length ls) → (until ≡ far.Fault → TellsLegalAccount (ls ++ line ∷ []))
    → HadNoFault until (ls ++ line ∷ []) from (length (ls ++ line ∷ []))
more_up_to far.End ls line from was now = tt
more_up_to far.Fault ls line from was now = λ n more most. elim (cases_lt (length ls) n) [
  | inl past ↦
      subst TellsLegalAccount
      (sym (take_all n (ls ++ line ∷ []) (omega (arith, past, length-append ls (line ∷ []))))) (now refl)
  | inr within ↦ front_kept ls line n (omega (arith, within)) (was n more (omega (arith, within)))
]

module _ {until : Until} {before : List (List ℕ)} {bytes : List ℕ} {o : OngoingAudit} {r : Records}
    {left : Option (List ℕ)} (runs : Runs until before bytes o r left) where
  abbrev read_so_far : List (List ℕ)
  read_so_far = before ++ lines runs.run.more

  module _ {line : List ℕ} {left' : Option (List ℕ)} where
    -- the reader has no more
    pub runs_out : (o' : OngoingAudit) → o'.stage ≡ o.stage → o'.piece.items ≡ line
        → o.piece.items ++ runs.ahead ≡ line → Lacks 10 line → left' ≡ Some []
        → HasGoneOn until before bytes o' r left' pause.End
    runs_out o' same piece all lacks none = record {
      rest = line;
      run = record {
        more = runs.run.more;
        parts = runs.run.parts ∙ ap (λ l. runs.run.more ++ l) (runs.is_rest ∙ all);
        are_whole = runs.run.are_whole;
        read = subst (λ (s : Stage). HasReadLines read_so_far s r) (sym same) runs.run.read;
      };
      has_left = (none, piece);
      no_lf = subst (Lacks 10) (sym piece) lacks;
      no_fault = runs.no_fault;
    }

    -- or a line more
    module _ (o' : OngoingAudit) (r' : Records)
        (has : HasNextPart (o.piece.items ++ runs.ahead) left' line next.Line)
        (step : (ls : List (List ℕ)) → HasReadLines ls o.stage r → HasReadLines (ls ++ line ∷ []) o'.stage r')
        (piece : o'.piece.items ≡ []) where
      abbrev whole : List ℕ
      whole = runs.run.more ++ (line ++ 10 ∷ [])

      lines_now : before ++ lines whole ≡ read_so_far ++ line ∷ []
      lines_now = ap (λ ls. before ++ ls) (line_more runs.run.more runs.run.are_whole line has.is_next.1)
          ∙ sym (append_assoc before (lines runs.run.more) (line ∷ []))

      abbrev run_on : HasRun before bytes o'.stage r' has.rest
      run_on = record {
        more = whole;
        parts = runs.run.parts ∙ ap (λ l. runs.run.more ++ l) (runs.is_rest ∙ has.is_next.0
            ∙ sym (append_assoc line (10 ∷ []) has.rest))
            ∙ sym (append_assoc runs.run.more (line ++ 10 ∷ []) has.rest);
        are_whole = whole_more runs.run.more runs.run.are_whole line has.is_next.1;
        read = subst (λ ls. HasReadLines ls o'.stage r') (sym lines_now) (step read_so_far runs.run.read);
      }

      -- with a fault
      pub runs_to_fault : HasFault o'.stage → HasGoneOn until before bytes o' r' left' pause.Fault
      runs_to_fault fault = record {
        rest = has.rest;
        run = run_on;
        has_left = (has.is_left, piece, fault);
        no_lf = subst (Lacks 10) (sym piece) (All-nil (λ byte. byte ≢ 10));
        no_fault = subst (λ ls. HadNoFault until ls (length before) (length ls - 1)) (sym lines_now)
            (kept_up_to until read_so_far line (length before) runs.no_fault);
      }

      cons_not_nil : (ls : List (List ℕ)) → ls ++ line ∷ [] ≡ [] → ⊥
      cons_not_nil ls none = omega (arith, ap length none, length-append ls (line ∷ []))

      -- or none
      pub runs_on : (until ≡ far.Fault → HasFault o'.stage → ⊥) → Runs until before bytes o' r' left'
      runs_on none = record {
        ahead = has.rest;
        is_left = has.is_left;
        rest = has.rest;
        is_rest = ap (λ p. p ++ has.rest) (sym piece);
        run = run_on;
        no_lf = subst (Lacks 10) (sym piece) (All-nil (λ byte. byte ≢ 10));
        no_fault = subst (λ ls. HadNoFault until ls (length before) (length ls)) (sym lines_now)
            (more_up_to until read_so_far line (length before) runs.no_fault
            (λ is. unfaulted (read_so_far ++ line ∷ []) o'.stage.verifier o'.stage.bad r' (none is)
            (cons_not_nil read_so_far) (step read_so_far runs.run.read)));
      }
