-- A line tells one reply, and its text what became of the request.
use Rattle.std.proofs.Common.{◌≡◌, ◌∙◌, ℕ, List, Some, ap}
use Rattle.std.proofs.lemmas.Option.{same_Some}
use Rattle.rv_account.specs.Account.{Account}
use Rattle.rv_replies.specs.findings.Fates.{IsFateOf}
use Rattle.rv_replies.specs.declared.findings.fate.Fate.{Fate}
use Rattle.rv_replies.specs.declared.findings.Finding.{Finding}
use Rattle.rv_replies.specs.declared.findings.Told.{Told}
use Rattle.rv_replies.specs.declared.records.Line.TheVariants as line
use Rattle.rv_run.specs.inspect.Lines.{SaysFate, finding_text, instead_said}

one_told : (x y : Told) → line.Told x ≡ line.Told y → x ≡ y
one_told x y is = cc

pub same_told : (x y : Told) → Some (line.Told x) ≡ Some (line.Told y) → x ≡ y
same_told x y is = one_told x y (same_Some _ _ is)

pub says_fate : (a : Account) (own told : Told) (its fate : Fate) (number : ℕ) (finding : Finding)
    (text : List ℕ) → own ≡ told → its ≡ fate → IsFateOf a.entries told.key fate
    → text ≡ finding_text number finding (instead_said finding own.key its)
    → SaysFate a told number finding text
says_fate a own told its fate number finding text same alike is text_is = (
  fate,
  is,
  text_is ∙ ap (λ (t : Told). finding_text number finding (instead_said finding t.key its)) same
      ∙ ap (λ (f : Fate). finding_text number finding (instead_said finding told.key f)) alike,
)
