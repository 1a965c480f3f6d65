-- Lines that are read one after the other are read as one text.
use Rattle.std.proofs.Common.{◌++◌, ◌∙◌, ℕ, List, [], ap, append-nil, append_assoc, refl, subst, sym}
use Rattle.rv_journal.specs.Text.{IsLines}
use Rattle.rv_journal.proofs.Lines.{whole_lines-append}
use Rattle.rv_store.specs.Reading.{HasReadJournal, IsFaultOfFront, RefusesTextOn, ReadsTextOn}
use Rattle.rv_store.specs.Resuming.{HasPassedOver, RefusesResuming, RefusesResumed, ResumesOn}
use Rattle.rv_store.specs.declared.reader.ReaderParts.{ReaderParts}
use Rattle.rv_store.specs.declared.reader.RecoveryFault.{RecoveryFault}
use Rattle.rv_store.specs.declared.resuming.ResumingReader.{ResumingReader}

pub both_lines : (text more : List ℕ) → IsLines text → IsLines more → IsLines (text ++ more)
both_lines text more is so = whole_lines-append text more is ∙ ap (λ (l : List ℕ). text ++ l) so

pub takes_none : (reader : ReaderParts) → ReadsTextOn reader [] reader
takes_none reader = (
  refl,
  λ before is has. subst (λ (l : List ℕ). HasReadJournal l reader) (sym (append-nil before)) has,
)

pub takes_on : (old mid new : ReaderParts) (text more : List ℕ) → IsLines text → ReadsTextOn old text mid
    → ReadsTextOn mid more new → ReadsTextOn old (text ++ more) new
takes_on old mid new text more is first second = (
  second.0 ∙ first.0,
  λ before whole has. subst (λ (l : List ℕ). HasReadJournal l new) (append_assoc before text more)
      (second.1 (before ++ text) (both_lines before text whole is) (first.1 before whole has)),
)

pub refuses_on : (old mid : ReaderParts) (text more : List ℕ) (why : RecoveryFault) → IsLines text
    → ReadsTextOn old text mid → RefusesTextOn mid more why → RefusesTextOn old (text ++ more) why
refuses_on old mid text more why is first second before whole has =
    subst (λ (l : List ℕ). IsFaultOfFront l why) (append_assoc before text more)
    (second (before ++ text) (both_lines before text whole is) (first.1 before whole has))

-- ---- the same of a reader that passes over lines

pub resumes_none : (reader : ResumingReader) → ResumesOn reader [] reader
resumes_none reader count first before is has =
    subst (λ (l : List ℕ). HasPassedOver count first l reader) (sym (append-nil before)) has

pub resumes_on : (old mid new : ResumingReader) (text more : List ℕ) → IsLines text → ResumesOn old text mid
    → ResumesOn mid more new → ResumesOn old (text ++ more) new
resumes_on old mid new text more is one other count first before whole has =
    subst (λ (l : List ℕ). HasPassedOver count first l new) (append_assoc before text more)
    (other count first (before ++ text) (both_lines before text whole is) (one count first before whole has))

pub resuming_refuses_on : (old mid : ResumingReader) (text more : List ℕ) (why : RecoveryFault)
    → IsLines text → ResumesOn old text mid → RefusesResuming mid more why
    → RefusesResuming old (text ++ more) why
resuming_refuses_on old mid text more why is one other count first before whole has =
    subst (λ (l : List ℕ). RefusesResumed count first l why) (append_assoc before text more)
    (other count first (before ++ text) (both_lines before text whole is) (one count first before whole has))
