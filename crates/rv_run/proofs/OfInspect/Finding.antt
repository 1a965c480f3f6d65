-- What the findings on all lines of a record tell: whether the account keeps each.
use Rattle.std.proofs.Common.{◌<◌, ◌≡◌, ◌++◌, ◌+◌, ◌∷◌, ◌↔◌, ◌∙◌, [], Bool, IsTrue, List, Some, arith, get_or}
use Rattle.std.proofs.Common.{inl, inr, length, length-append, refl, slice_get, subst, sym, ℕ}
use Rattle.std.specs.List.{All}
use Rattle.std.proofs.lemmas.Option.{none-some, slice_get-get_or, slice_get_cases, slice_get_within}
use Rattle.std.proofs.lemmas.List.Elements.{All-from_get_or, All-get_or}
use Rattle.rv_account.specs.Account.{Account}
use Rattle.rv_account.specs.rules.Legal.{Legal}
use Rattle.rv_account.proofs.OfRules.Places.{get-append_cases}
use Rattle.rv_replies.specs.Standing.{HasNoted, IsLineFinding}
use Rattle.rv_replies.specs.declared.findings.Finding.{Finding}
use Rattle.rv_replies.specs.declared.findings.Finding.TheVariants.{Impossible, Kept, KeptUnseen, NoRecord}
use Rattle.rv_replies.specs.declared.findings.Finding.TheVariants.{NoRequest, OtherCall, OtherEpoch}
use Rattle.rv_replies.specs.declared.findings.Finding.TheVariants.{OtherReply, Waiting}
use Rattle.rv_replies.specs.declared.findings.Told.{Told}
use Rattle.rv_replies.specs.declared.records.Line.{Line}
use Rattle.rv_replies.specs.declared.records.Line.TheVariants as line
use Rattle.rv_replies.specs.declared.records.Records.{Records}
use Rattle.rv_run.specs.inspect.Report.{FindsFirst}
use Rattle.rv_run.specs.inspect.Statuses.{IsLineKept, TellsKept}
use Rattle.rv_replies.specs.findings.Findings.{IsFinding, IsKeptFinding, order_of}

-- a line that is kept is found so
no_later : (a : Account) (told : Told) (f : Finding) → IsFinding a told f → IsLineKept a (line.Told told)
    → 0 < order_of f → ⊥
no_later a told f is (inl kept) later = is.first Kept later kept.says
no_later a told f is (inr unseen) later = is.first KeptUnseen later unseen.says

kept_first : (a : Account) (told : Told) (f : Finding) → IsFinding a told f → IsLineKept a (line.Told told)
    → IsKeptFinding f
kept_first a told Kept is kept = inl refl
kept_first a told KeptUnseen is kept = inr refl
kept_first a told OtherEpoch is kept = absurd (no_later a told OtherEpoch is kept (omega arith))
kept_first a told Impossible is kept = absurd (no_later a told Impossible is kept (omega arith))
kept_first a told OtherReply is kept = absurd (no_later a told OtherReply is kept (omega arith))
kept_first a told OtherCall is kept = absurd (no_later a told OtherCall is kept (omega arith))
kept_first a told Waiting is kept = absurd (no_later a told Waiting is kept (omega arith))
kept_first a told NoRequest is kept = absurd (no_later a told NoRequest is kept (omega arith))
kept_first a told NoRecord is kept = absurd (no_later a told NoRecord is kept (omega arith))

found_kept : (a : Account) (own : Line) (f : Finding) → IsLineFinding a own f → IsLineKept a own
    → IsKeptFinding f
found_kept a (line.Told told) f is kept = kept_first a told f is kept
found_kept a (line.Flawed flaw) f is (inl kept) = absurd (let no : ⊥ = cc in no)
found_kept a (line.Flawed flaw) f is (inr kept) = absurd (let no : ⊥ = cc in no)

-- and one that is found so is kept
line_kept : (a : Account) (own : Line) (f : Finding) → IsLineFinding a own f → IsKeptFinding f
    → IsLineKept a own
line_kept a own f is (inl kept) = inl (subst (IsLineFinding a own) kept is)
line_kept a own f is (inr unseen) = inr (subst (IsLineFinding a own) unseen is)

-- ---- the findings so far

pub finds_none : (r : Records) (epoch : ℕ) → FindsFirst r epoch 0 []
finds_none r epoch = record {
  each = refl;
  are = λ a legal is noted index own finding there none. absurd (none-some finding none);
}

pub finds_more : (r : Records) (epoch count : ℕ) (fs : List Finding) (f : Finding)
    → FindsFirst r epoch count fs
    → ((a : Account) (own : Line) → slice_get r.lines.items count ≡ Some own → Legal a → a.epoch ≡ epoch
    → HasNoted r a → IsLineFinding a own f)
    → FindsFirst r epoch (count + 1) (fs ++ f ∷ [])
finds_more r epoch count fs f finds last = record {
  each = omega (arith, length-append fs (f ∷ []), finds.each);
  are = λ a legal is noted index own finding there found.
      elim (get-append_cases fs f finding index found) [
        | inl h ↦ finds.are a legal is noted index own finding there h.1
        | inr h ↦ subst (λ (g : Finding). IsLineFinding a own g) h.1 (last a own
            (subst (λ n. slice_get r.lines.items n ≡ Some own) (h.0 ∙ finds.each) there) legal is noted)
      ];
}

-- ---- all findings

-- where each finding tells so, each line is kept
each_kept : (r : Records) (epoch : ℕ) (fs : List Finding) (a : Account)
    → FindsFirst r epoch (length r.lines.items) fs → Legal a → a.epoch ≡ epoch → HasNoted r a
    → All IsKeptFinding fs → (index : ℕ) (own : Line) → slice_get r.lines.items index ≡ Some own
    → IsLineKept a own
each_kept r epoch fs a finds legal is noted all index own there =
    let less : index < length fs = subst (λ n. index < n) (sym finds.each)
    (slice_get_within r.lines.items index own there) in
    line_kept a own (get_or fs index Kept)
    (finds.are a legal is noted index own (get_or fs index Kept) there (slice_get-get_or fs index Kept less))
    (All-get_or IsKeptFinding fs index Kept less all)

-- and where each line is kept, each finding tells so
all_kept : (r : Records) (epoch : ℕ) (fs : List Finding) (a : Account)
    → FindsFirst r epoch (length r.lines.items) fs → Legal a → a.epoch ≡ epoch → HasNoted r a
    → ((index : ℕ) (own : Line) → slice_get r.lines.items index ≡ Some own → IsLineKept a own)
    → All IsKeptFinding fs
all_kept r epoch fs a finds legal is noted each = All-from_get_or IsKeptFinding fs Kept (λ index less.
    let inside : index < length r.lines.items = subst (λ n. index < n) finds.each less in
    elim (slice_get_cases r.lines.items index).1 [
      | inl h ↦ found_kept a h.0 (get_or fs index Kept) (finds.are a legal is noted index h.0
          (get_or fs index Kept) h.2 (slice_get-get_or fs index Kept less)) (each index h.0 h.2)
      | inr h ↦ absurd (omega (arith, inside, h.0))
    ])

pub kept_told : (r : Records) (epoch : ℕ) (fs : List Finding) (kept : Bool)
    → FindsFirst r epoch (length r.lines.items) fs → (IsTrue kept ↔ All IsKeptFinding fs)
    → TellsKept r epoch kept
kept_told r epoch fs kept finds tells a legal is noted = (
  λ yes. each_kept r epoch fs a finds legal is noted (tells.0 yes),
  λ each. tells.1 (all_kept r epoch fs a finds legal is noted each),
)
