-- What a status of 0 tells.
use Rattle.std.proofs.Common.{◌≡◌, ◌∷◌, ◌∙◌, [], Bool, List, None, Option, Some, ap, arith, false, inl, inr}
use Rattle.std.proofs.Common.{length}
use Rattle.std.proofs.Common.{refl, slice_get, subst, suc, sym, true, ℕ}
use Rattle.std.specs.List.{All, AllZip}
use Rattle.std.proofs.lemmas.List.{take_all}
use Rattle.std.proofs.lemmas.List.Elements.{All-cons, All-nil}
use Rattle.rv_account.specs.Account.{Account}
use Rattle.rv_audit.specs.declared.rule.Rule.{Rule}
use Rattle.rv_replies.specs.findings.Statuses.{status_by}
use Rattle.rv_replies.specs.declared.findings.verdict.AccountVerdict.{AccountVerdict}
use Rattle.rv_replies.specs.declared.findings.verdict.AccountVerdict.TheVariants.{BadLine, BeyondLimits}
use Rattle.rv_replies.specs.declared.findings.verdict.AccountVerdict.TheVariants.{Fault, Legal as LegalSoFar}
use Rattle.rv_replies.specs.declared.findings.verdict.AccountVerdict.TheVariants.{NotOpen}
use Rattle.rv_run.specs.inspect.Statuses.{IsKeptBeside, IsLineKept}
use Rattle.rv_book.specs.lines.Lines.{lines}
use Rattle.rv_replies.specs.Standing.{HasNoted, IsRecordLine}
use Rattle.rv_replies.specs.declared.records.Line.{Line}
use Rattle.rv_replies.specs.declared.records.Line.TheVariants as line
use Rattle.rv_replies.specs.declared.records.Records.{Records}
use Rattle.rv_verify.specs.Ends.{HoldsOfLines, IsWholeWith}
use Rattle.rv_verify.specs.Noting.{HasNotedOf}
use Rattle.rv_verify.specs.Verdicts.{IsVerdictOn, ReadsLong, TellsLegalAccount}
use Rattle.rv_verify.proofs.Longest.{legal_is_noted}
use Rattle.rv_app.specs.Verified.{KeepsRecord, KeepsRecordLine, ZeroKeepsAll}

-- ---- the status

record IsZero (v : AccountVerdict) (torn kept : Bool) : Type 0 where
  legal : v ≡ LegalSoFar
  whole : torn ≡ false
  all : kept ≡ true

zero_by : (v : AccountVerdict) (rule : Option Rule) (torn kept : Bool) → 0 ≡ status_by v rule torn kept
    → IsZero v torn kept
zero_by LegalSoFar rule false true is = record { legal = refl; whole = refl; all = refl }
zero_by LegalSoFar rule true true is = absurd (omega (arith, is))
zero_by LegalSoFar rule torn false is = absurd (omega (arith, is))
zero_by (Fault place broken) rule true kept is = absurd (omega (arith, is))
zero_by (Fault place broken) rule false kept is = absurd (omega (arith, is))
zero_by (NotOpen place e) rule true kept is = absurd (omega (arith, is))
zero_by (NotOpen place e) (Some broken) false kept is = absurd (omega (arith, is))
zero_by (NotOpen place e) None false kept is = absurd (omega (arith, is))
zero_by (BadLine number) rule true kept is = absurd (omega (arith, is))
zero_by (BadLine number) rule false kept is = absurd (omega (arith, is))
zero_by (BeyondLimits place) rule true kept is = absurd (omega (arith, is))
zero_by (BeyondLimits place) rule false kept is = absurd (omega (arith, is))

-- ---- the record

line_kept : (a : Account) (text : List ℕ) (own : Line) → IsRecordLine text own → IsLineKept a own
    → KeepsRecordLine a text
line_kept a text (line.Told told) is kept = (told, is, kept)
line_kept a text (line.Flawed flaw) is (inl kept) = absurd (let no : ⊥ = cc in no)
line_kept a text (line.Flawed flaw) is (inr kept) = absurd (let no : ⊥ = cc in no)

each_kept : (a : Account) (texts : List (List ℕ)) (owns : List Line) → AllZip IsRecordLine texts owns
    → ((index : ℕ) (own : Line) → slice_get owns index ≡ Some own → IsLineKept a own)
    → All (KeepsRecordLine a) texts
each_kept a [] [] are kept = All-nil (KeepsRecordLine a)
each_kept a [] (own ∷ owns) are kept = absurd are
each_kept a (text ∷ texts) [] are kept = absurd are
each_kept a (text ∷ texts) (own ∷ owns) are kept = All-cons (KeepsRecordLine a) text texts
    (line_kept a text own are.0 (kept 0 own refl))
    (each_kept a texts owns are.1 (λ index other there. kept (suc index) other there))

keeps_record : (ls replies : List (List ℕ)) (epoch : Option ℕ) (r : Records) (kept : Bool) → kept ≡ true
    → TellsLegalAccount ls → HasNotedOf ls epoch r → AllZip IsRecordLine replies r.lines.items
    → IsKeptBeside (Some r) epoch kept → KeepsRecord replies ls
keeps_record ls replies None r kept all legal noted are tells =
    absurd (noted (length ls) legal.account (subst (λ (l : List (List ℕ)). ReadsLong l legal.account)
    (sym (take_all (length ls) ls (omega arith))) legal.read))
keeps_record ls replies (Some epoch) r kept all legal noted are tells =
    let same : noted.account ≡ legal.account = legal_is_noted ls legal.account noted.account legal.read
    legal.legal legal.had_room noted.is_longest in
    let each = (tells legal.account legal.legal (ap (λ (a : Account). a.epoch) (sym same) ∙ noted.is_epoch)
    (subst (HasNoted r) same noted.noted)).0 all in
    record { legal = legal; kept = each_kept legal.account replies r.lines.items are each }

pub zero_keeps_all : ZeroKeepsAll
zero_keeps_all account replies found rule r told noted are tells =
    let zero_is = zero_by found.verdict rule found.torn tells.0 tells.1 in
    let whole : IsWholeWith account (λ ls. IsVerdictOn ls found.verdict) =
    subst (λ (b : Bool). HoldsOfLines b account (λ ls. IsVerdictOn ls found.verdict)) zero_is.whole told in
    let notes : IsWholeWith account (λ ls. HasNotedOf ls found.epoch r) =
    subst (λ (b : Bool). HoldsOfLines b account (λ ls. HasNotedOf ls found.epoch r)) zero_is.whole noted in
    let legal : TellsLegalAccount (lines account) =
    subst (λ (v : AccountVerdict). IsVerdictOn (lines account) v) zero_is.legal whole.holds in
    record {
      whole = whole.whole;
      piece = whole.piece;
      ends = whole.ends;
      untorn = whole.untorn;
      holds = keeps_record (lines account) (lines replies) found.epoch r tells.0 zero_is.all legal notes.holds
          are tells.2;
    }
