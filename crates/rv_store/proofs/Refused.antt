-- What is said of the front of a journal's lines, where more of them come.
use Rattle.std.proofs.Common.{◌≡◌, ◌≢◌, ◌⊎◌, ◌++◌, ◌∷◌, ◌∙◌, ℕ, List, [], ap, append_assoc, arith, inl, inr}
use Rattle.std.proofs.Common.{length, refl, subst, sym}
use Rattle.std.specs.Int.{IsInRange}
use Rattle.std.specs.List.{All}
use Rattle.std.specs.Prelude.{codes}
use Rattle.std.proofs.lemmas.List.Elements.{All-head, All-tail}
use Rattle.rv_journal.specs.Cutter.{RefusesFront}
use Rattle.rv_journal.specs.Opened.{LacksOf, MakesOf}
use Rattle.rv_journal.specs.Text.{IsLines}
use Rattle.rv_book.specs.lines.Lines.{lines}
use Rattle.rv_book.proofs.OfLines.Cutting.{Lacks}
use Rattle.rv_book.proofs.OfLines.OneLine.{greater_lack, line_append}
use Rattle.rv_store.specs.Format.{HasNoFormat, IsJournalOf, IsVersionIn, format}
use Rattle.rv_replies.specs.declared.findings.verdict.AccountFinding.{AccountFinding}
use Rattle.rv_store.specs.Reading.{HasReadJournal, HoldsJournal, IsFaultOfFront, IsFaultOfText, IsNoAccount}
use Rattle.rv_store.specs.Reading.{LacksAccount, MakesMachine, ReadsTextOn, RefusesTextOn}
use Rattle.rv_store.specs.WholeLines.{lines_on, rest_lines, whole}
use Rattle.rv_machine.specs.Machines.{state_in}
use Rattle.rv_machine.specs.declared.machine.Machine.{Machine}
use Rattle.rv_store.specs.declared.reader.ReaderParts.{ReaderParts}
use Rattle.rv_store.specs.declared.reader.RecoveryFault.{RecoveryFault}
use Rattle.rv_store.specs.declared.reader.RecoveryFault.TheVariants as fault

drop_first : (x y : ℕ) (xs ys : List ℕ) → x ∷ xs ≡ y ∷ ys → xs ≡ ys
drop_first x y xs ys same = ap (λ (l : List ℕ). elim l [ [] ↦ [] | (z ∷ zs) ↦ zs ]) same

first_is : (x y : ℕ) (xs ys : List ℕ) → x ∷ xs ≡ y ∷ ys → x ≡ y
first_is x y xs ys same = ap (λ (l : List ℕ). elim l [ [] ↦ 0 | (z ∷ zs) ↦ z ]) same

-- bytes without LF that a text begins with stand in its first line
in_line : (line more text rest : List ℕ) → Lacks 10 text → line ++ 10 ∷ more ≡ text ++ rest
    → (after : List ℕ) × (line ++ 10 ∷ [] ≡ text ++ after)
in_line line more [] rest lacks same = (line ++ 10 ∷ [], refl)
in_line [] more (b ∷ text) rest lacks same =
    absurd (All-head (λ x. x ≢ 10) b text lacks (sym (first_is 10 b more (text ++ rest) same)))
in_line (x ∷ line) more (b ∷ text) rest lacks same =
    let later = in_line line more text rest (All-tail (λ x. x ≢ 10) b text lacks)
    (drop_first x b (line ++ 10 ∷ more) (text ++ rest) same) in (
      later.0,
      ap (λ (n : ℕ). n ∷ line ++ 10 ∷ []) (first_is x b (line ++ 10 ∷ more) (text ++ rest) same)
          ∙ ap (λ (l : List ℕ). b ∷ l) later.1,
    )

digits_lack : (digits : List ℕ) → All (IsInRange 48 57) digits → Lacks 10 digits
digits_lack digits within k d inside same = omega (arith, within k d inside)

empty_front : (front more : List ℕ) → front ++ more ≡ [] → front ≡ []
empty_front [] more none = refl
empty_front (x ∷ front) more none = absurd (omega (arith, ap length none))

module _ (front more : List ℕ) (is : IsLines front) where
  in_front : (text rest : List ℕ) → front ≢ [] → Lacks 10 text → front ++ more ≡ text ++ rest
      → (after : List ℕ) × (front ≡ text ++ after)
  in_front text rest some lacks same = elim (whole front is) [
    | inl none ↦ absurd (some none)
    | inr ends ↦
        let line = in_line ends.0 more text rest lacks
        (sym (ap (λ (l : List ℕ). l ++ more) ends.1 ∙ append_assoc ends.0 (10 ∷ []) more) ∙ same) in
        (line.0, ends.1 ∙ line.1)
  ]

  on_account : (account : List ℕ) → IsJournalOf front account → IsJournalOf (front ++ more) (account ++ more)
  on_account account same = ap (λ (l : List ℕ). l ++ more) same ∙ append_assoc format account more

  on_lines : (account : List ℕ) → IsJournalOf front account → lines account ++ lines more ≡ lines (account ++
      more)
  on_lines account same = sym (lines_on account more (rest_lines format account (subst IsLines same is)))

  no_account_on : (account : List ℕ) (found : AccountFinding) → IsNoAccount (lines account) found
      → lines account ++ lines more ≡ lines (account ++ more) → IsNoAccount (lines (account ++ more)) found
  no_account_on account found none joined = record {
    front = none.front;
    more = none.more ++ lines more;
    parts = sym joined ∙ ap (λ (l : List (List ℕ)). l ++ lines more) none.parts
        ∙ append_assoc none.front none.more (lines more);
    told = none.told;
    illegal = none.illegal;
  }

  -- a format that the lines are cut as, the front is
  format_lacks : (digits : List ℕ) → Lacks 10 digits → Lacks 10 (codes "journal" ++ 32 ∷ digits ++ 32 ∷ [])
  format_lacks digits lacks = line_append (codes "journal" ++ 32 ∷ []) (digits ++ 32 ∷ [])
      (greater_lack 10 (codes "journal ") refl)
      (line_append digits (32 ∷ []) lacks (greater_lack 10 (32 ∷ []) refl))

  version_on : (version : ℕ) → IsVersionIn front version → IsVersionIn (front ++ more) version
  version_on version had = (
    had.0,
    had.1 ++ more,
    record {
      parts = ap (λ (l : List ℕ). l ++ more) had.2.parts
          ∙ ap (λ (l : List ℕ). codes "journal" ++ 32 ∷ l) (append_assoc had.0 (32 ∷ had.1) more);
      no_space = had.2.no_space;
    },
    had.3,
  )

  version_in : (version : ℕ) → front ≢ [] → IsVersionIn (front ++ more) version → IsVersionIn front version
  version_in version some had =
      let before = in_front (codes "journal" ++ 32 ∷ had.0 ++ 32 ∷ []) had.1 some
      (format_lacks had.0 (digits_lack had.0 had.3.0.0.are_digits))
      (had.2.parts ∙ sym (ap (λ (l : List ℕ). codes "journal" ++ 32 ∷ l) (append_assoc had.0 (32 ∷ [])
      had.1))) in (
        had.0,
        before.0,
        record {
          parts = before.1 ∙ ap (λ (l : List ℕ). codes "journal" ++ 32 ∷ l)
              (append_assoc had.0 (32 ∷ []) before.0);
          no_space = had.2.no_space;
        },
        had.3,
      )

  none_on : HasNoFormat front → HasNoFormat (front ++ more)
  none_on none = record {
    some = λ no. none.some (empty_front front more no);
    this = λ account same. none.this (in_front format account none.some (greater_lack 10 format refl) same).0
        (in_front format account none.some (greater_lack 10 format refl) same).1;
    other = λ version had differs. none.other version (version_in version none.some had) differs;
  }

  pub of_more : (epoch : ℕ) (why : RecoveryFault) → IsFaultOfFront front why
      → IsFaultOfText epoch (front ++ more) why
  of_more epoch (fault.OtherVersion version) had = (version_on version had.0, had.1)
  of_more epoch fault.NoJournal none = none_on none
  of_more epoch fault.NoLines none = absurd none
  of_more epoch (fault.OtherEpoch other) none = absurd none
  of_more epoch (fault.NoAccount found) had = (
    had.0 ++ more,
    on_account had.0 had.1,
    no_account_on had.0 found had.2 (on_lines had.0 had.1),
  )
  of_more epoch fault.TooFew none = absurd none
  of_more epoch fault.NoMemory none = tt

-- a reader that had read nothing refused lines, or made nothing of them
pub refused_lines : (text : List ℕ) (epoch : ℕ) (reader : ReaderParts) (why : RecoveryFault)
    → HasReadJournal [] reader → reader.epoch ≡ epoch
    → RefusesFront RefusesTextOn reader text why ⊎ LacksOf ReadsTextOn LacksAccount reader text why
    → IsLines text → IsFaultOfText epoch text why
refused_lines text epoch reader why none same refused is = elim refused [
  | inl front ↦ subst (λ (l : List ℕ). IsFaultOfText epoch l why) front.whole
      (of_more front.front front.more front.whole_lines epoch why (front.refused [] refl none))
  | inr all ↦ subst (λ (n : ℕ). IsFaultOfText n text why) (all.taken.0 ∙ same)
      (all.lacking text is (all.taken.1 [] refl none))
]

pub made_lines : (text : List ℕ) (epoch : ℕ) (reader : ReaderParts) (machine : Machine)
    → HasReadJournal [] reader → reader.epoch ≡ epoch
    → MakesOf ReadsTextOn MakesMachine reader text machine → IsLines text → HoldsJournal epoch text machine
made_lines text epoch reader machine none same all is = subst (λ (n : ℕ). HoldsJournal n text machine)
    (all.taken.0 ∙ same) (all.made.2 text is (all.taken.1 [] refl none))

pub made_epoch : (text : List ℕ) (epoch : ℕ) (reader : ReaderParts) (machine : Machine) → reader.epoch ≡ epoch
    → MakesOf ReadsTextOn MakesMachine reader text machine → (state_in machine).epoch ≡ epoch
made_epoch text epoch reader machine same all = all.made.1 ∙ all.taken.0 ∙ same
