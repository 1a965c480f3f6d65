-- A journal whose first lines are passed over.
use Rattle.std.proofs.Common.{◌≡◌, ◌≢◌, ◌⊎◌, ◌<◌, ◌+◌, ◌++◌, ◌∷◌, ◌∙◌, ℕ, Bool, true, false, List, []}
use Rattle.std.proofs.Common.{◌==◌, ap, append-nil, append_assoc, arith, cond, inl, inr, length}
use Rattle.std.proofs.Common.{length-append}
use Rattle.std.proofs.Common.{refl, subst, suc, sym, zero}
use Rattle.std.proofs.lemmas.Bool.{false≢true}
use Rattle.std.specs.List.{onto_first}
use Rattle.std.specs.Prelude.{Err, IfErr, IfOk, Ok, OnOk, Result}
use Rattle.rv_account.proofs.OfState.Agreed.{agreed}
use Rattle.rv_account.specs.state.State.{State}
use Rattle.rv_book.specs.lines.Lines.{lines}
use Rattle.rv_book.proofs.OfLines.Cutting.{Lacks, lines_cut}
use Rattle.rv_book.proofs.OfLines.Turns.{zip_length}
use Rattle.rv_journal.specs.Cutter.{RefusesFront}
use Rattle.rv_journal.specs.Opened.{LacksOf, MakesOf}
use Rattle.rv_journal.specs.Text.{IsLines}
use Rattle.rv_journal.proofs.Lines.{lines_end, whole_lines-lf}
use Rattle.rv_machine.specs.Machines.{state_in}
use Rattle.rv_machine.specs.declared.machine.Machine.{Machine}
use Rattle.rv_verify.specs.Standing.{HoldsAccountOf}
use Rattle.rv_store.specs.Format.{IsFormatFault, IsJournalOf, format}
use Rattle.rv_store.specs.Joined.{both_lines, refuses_on, takes_on}
use Rattle.rv_store.specs.Reading.{HasReadJournal, HoldsJournal, IsFaultOfFront, IsFaultOfText, LacksAccount}
use Rattle.rv_store.specs.Reading.{MakesMachine, ReadsTextOn, RefusesTextOn}
use Rattle.rv_store.specs.Resumed.{GoesOnFrom}
use Rattle.rv_store.specs.Resuming.{AreAfter, EndsAt, HasPassedOver, IsPartOf, IsTooShort, LacksResumed}
use Rattle.rv_store.specs.Resuming.{MakesResumed, PassesLines, PassesSome, RefusesResuming, RefusesResumed}
use Rattle.rv_store.specs.Resuming.{ResumesOn}
use Rattle.rv_store.specs.WholeLines.{lines_on, rest_lines}
use Rattle.rv_store.specs.declared.reader.ReaderParts.{ReaderParts}
use Rattle.rv_store.specs.declared.reader.RecoveryFault.{RecoveryFault}
use Rattle.rv_store.specs.declared.reader.RecoveryFault.TheVariants as fault
use Rattle.rv_store.specs.declared.resuming.ResumingReader.{ResumingReader}
use Rattle.rv_store.proofs.Begun.{of_format}
use Rattle.rv_store.proofs.Refused.{of_more}
use Rattle.rv_text.specs.Members.{max_identifier}

drop_front : (front xs ys : List ℕ) → front ++ xs ≡ front ++ ys → xs ≡ ys
drop_front [] xs ys same = same
drop_front (x ∷ front) xs ys same =
    drop_front front xs ys (ap (λ (l : List ℕ). elim l [ [] ↦ [] | (z ∷ zs) ↦ zs ]) same)

-- a journal's account is one
one_account : (text account other : List ℕ) → IsJournalOf text account → IsJournalOf text other
    → account ≡ other
one_account text account other is same = drop_front format account other (sym is ∙ same)

-- lists of one length that lists begin with are one
same_front : (xs ys more other : List (List ℕ)) → length xs ≡ length ys → xs ++ more ≡ ys ++ other → xs ≡ ys
same_front [] [] more other same is = refl
same_front [] (y ∷ ys) more other same is = absurd (omega (arith, same))
same_front (x ∷ xs) [] more other same is = absurd (omega (arith, same))
same_front (x ∷ xs) (y ∷ ys) more other same is =
    let head : x ≡ y = ap (λ (l : List (List ℕ)). elim l [ [] ↦ x | (z ∷ zs) ↦ z ]) is in
    let tail = ap (λ (l : List (List ℕ)). elim l [ [] ↦ [] | (z ∷ zs) ↦ zs ]) is in
    ap (λ (z : List ℕ). z ∷ xs) head
    ∙ ap (λ (l : List (List ℕ)). y ∷ l) (same_front xs ys more other (omega (arith, same)) tail)

-- whole lines of which there are none
onto_some : (x : ℕ) (ls : List (List ℕ)) → length (onto_first x ls) ≡ 0 → ⊥
onto_some x [] none = absurd (omega (arith, none))
onto_some x (l ∷ ls) none = absurd (omega (arith, none))

some_lines : (x : ℕ) (xs : List ℕ) → length (lines (x ∷ xs)) ≡ 0 → ⊥
some_lines x xs none = elim (x == 10) as (λ b. length (cond b ([] ∷ lines xs) (onto_first x (lines xs))) ≡ 0
    → ⊥) [
      | true ↦ λ is. absurd (omega (arith, is))
      | false ↦ onto_some x (lines xs)
    ] none

no_lines : (text : List ℕ) → length (lines text) ≡ 0 → text ≡ []
no_lines [] none = refl
no_lines (x ∷ xs) none = absurd (some_lines x xs none)

-- ---- lines that are passed over

pub passes_none : (text : List ℕ) → IsLines text → PassesLines 0 text text
passes_none text is = record { passed = []; parts = refl; whole = refl; rest_whole = is; counted = refl }

pub passes_more : (n : ℕ) (text rest line after : List ℕ) → PassesLines n text rest
    → rest ≡ line ++ 10 ∷ after → Lacks 10 line → PassesLines (n + 1) text after
passes_more n text rest line after passes is lacks =
    let one = line ++ 10 ∷ [] in
    let split : rest ≡ one ++ after = is ∙ sym (append_assoc line (10 ∷ []) after) in
    let more : lines (passes.passed ++ one) ≡ lines passes.passed ++ line ∷ [] =
    lines_on passes.passed one passes.whole
    ∙ ap (λ (l : List (List ℕ)). lines passes.passed ++ l) (lines_cut line [] lacks) in
    record {
      passed = passes.passed ++ one;
      parts = passes.parts ∙ ap (λ (l : List ℕ). passes.passed ++ l) split
          ∙ sym (append_assoc passes.passed one after);
      whole = both_lines passes.passed one passes.whole (whole_lines-lf line);
      rest_whole = rest_lines one after (subst IsLines split passes.rest_whole);
      counted = omega (
        arith,
        ap length more,
        length-append (lines passes.passed) (line ∷ []),
        passes.counted,
      );
    }

-- so many are passed over, or all lines
pub passes_some : (count left n : ℕ) (text rest : List ℕ) → PassesLines n text rest → n + left ≡ count
    → (0 < left → rest ≡ []) → PassesSome count left text rest
passes_some count left n text rest passes counted none =
    record { number = n; passes = passes; counted = counted; none = none }

-- what is passed over of further lines
join_none : (count later : ℕ) (text rest more after : List ℕ) → PassesSome count 0 text rest
    → PassesSome 0 later more after → PassesSome count later (text ++ more) (rest ++ after)
join_none count later text rest more after one other =
    let no : other.passes.passed ≡ [] = no_lines other.passes.passed
    (omega (arith, other.passes.counted, other.counted)) in
    let all : more ≡ after = other.passes.parts ∙ ap (λ (l : List ℕ). l ++ after) no in
    record {
      number = one.number;
      passes = record {
        passed = one.passes.passed;
        parts = ap (λ (l : List ℕ). text ++ l) all ∙ ap (λ (l : List ℕ). l ++ after) one.passes.parts
            ∙ append_assoc one.passes.passed rest after;
        whole = one.passes.whole;
        rest_whole = both_lines rest after one.passes.rest_whole other.passes.rest_whole;
        counted = one.passes.counted;
      };
      counted = omega (arith, one.counted, other.counted);
      none = λ some. absurd (omega (arith, some, other.counted));
    }

join_some : (count left later : ℕ) (text rest more after : List ℕ) → rest ≡ []
    → PassesSome count left text rest → PassesSome left later more after
    → PassesSome count later (text ++ more) (rest ++ after)
join_some count left later text rest more after none one other =
    let same : rest ++ after ≡ after = ap (λ (l : List ℕ). l ++ after) none in
    let all : text ≡ one.passes.passed =
    one.passes.parts ∙ ap (λ (l : List ℕ). one.passes.passed ++ l) none ∙ append-nil one.passes.passed in
    let both = lines_on one.passes.passed other.passes.passed one.passes.whole in
    subst (λ (l : List ℕ). PassesSome count later (text ++ more) l) (sym same) (record {
      number = one.number + other.number;
      passes = record {
        passed = one.passes.passed ++ other.passes.passed;
        parts = ap (λ (l : List ℕ). l ++ more) all
            ∙ ap (λ (l : List ℕ). one.passes.passed ++ l) other.passes.parts
            ∙ sym (append_assoc one.passes.passed other.passes.passed after);
        whole = both_lines one.passes.passed other.passes.passed one.passes.whole other.passes.whole;
        rest_whole = other.passes.rest_whole;
        counted = omega (
          arith,
          ap length both,
          length-append (lines one.passes.passed) (lines other.passes.passed),
          one.passes.counted,
          other.passes.counted,
        );
      };
      counted = omega (arith, one.counted, other.counted);
      none = other.none;
    })

passes_join : (count left later : ℕ) (text rest more after : List ℕ) → PassesSome count left text rest
    → PassesSome left later more after → PassesSome count later (text ++ more) (rest ++ after)
passes_join count zero later text rest more after one other =
    join_none count later text rest more after one other
passes_join count (suc left) later text rest more after one other =
    join_some count (suc left) later text rest more after (one.none (omega arith)) one other

-- ---- the lines of a journal

part_on : (begun : Bool) (before text had account : List ℕ) → IsPartOf begun before had
    → (begun ≡ true → account ≡ text) → (begun ≡ false → text ≡ format ++ account)
    → IsJournalOf (before ++ text) (had ++ account)
part_on true before text had account is later first =
    ap (λ (l : List ℕ). l ++ text) is ∙ append_assoc format had text
    ∙ ap (λ (l : List ℕ). format ++ had ++ l) (sym (later refl))
part_on false before text had account is later first =
    ap (λ (l : List ℕ). l ++ text) is.0 ∙ first refl
    ∙ ap (λ (l : List ℕ). format ++ l ++ account) (sym is.1)

module _ (count : ℕ) (first : ReaderParts) (before text account rest : List ℕ) (old : ResumingReader)
    (later : old.begun ≡ true → account ≡ text) (begins : old.begun ≡ false → text ≡ format ++ account)
    (has : HasPassedOver count first before old) where
  pub resumes_part : (new : ResumingReader) → new.begun ≡ true → PassesSome old.left new.left account rest
      → ReadsTextOn old.reader rest new.reader → HasPassedOver count first (before ++ text) new
  resumes_part new begun passes reads = record {
    account = has.account ++ account;
    is = subst (λ (b : Bool). IsPartOf b (before ++ text) (has.account ++ account)) (sym begun)
        (part_on old.begun before text has.account account has.is later begins);
    rest = has.rest ++ rest;
    passes = passes_join count old.left new.left has.account has.rest account rest has.passes passes;
    reads = takes_on first old.reader new.reader has.rest rest has.passes.passes.rest_whole has.reads reads;
  }

  pub refuses_part : (why : RecoveryFault) → PassesSome old.left 0 account rest
      → RefusesTextOn old.reader rest why → RefusesResumed count first (before ++ text) why
  refuses_part why passes refused =
      let all = passes_join count old.left 0 has.account has.rest account rest has.passes passes in
      inr (record {
        account = has.account ++ account;
        is = part_on old.begun before text has.account account has.is later begins;
        rest = has.rest ++ rest;
        passes = subst (λ (n : ℕ). PassesLines n (has.account ++ account) (has.rest ++ rest))
            (omega (arith, all.counted)) all.passes;
        holds = refuses_on first old.reader has.rest rest why has.passes.passes.rest_whole has.reads refused;
      })

-- the first line names another format
pub refuses_first : (count : ℕ) (first : ReaderParts) (before text : List ℕ) (begun : Bool)
    (account : List ℕ) (why : RecoveryFault) → IsPartOf begun before account
    → (begun ≡ false) × IsFormatFault text why → text ≢ [] → RefusesResumed count first (before ++ text) why
refuses_first count first before text true account why is fault some = absurd (false≢true (sym fault.0))
refuses_first count first before text false account why is fault some = inl (subst (λ (l : List ℕ).
    IsFaultOfFront l why) (sym (ap (λ (l : List ℕ). l ++ text) is.0)) (of_format text why fault.1 some))

-- ---- no more lines come

module _ (reader : ResumingReader) where
  ends_at : (P : ReaderParts → Type 0) → reader.begun ≡ true → reader.left ≡ 0 → P reader.reader
      → (count : ℕ) (first : ReaderParts) (text : List ℕ) → HasPassedOver count first text reader
      → AreAfter count text (EndsAt first P)
  ends_at P begun none holds count first text has = record {
    account = has.account;
    is = subst (λ (b : Bool). IsPartOf b text has.account) begun has.is;
    rest = has.rest;
    passes = subst (λ (n : ℕ). PassesLines n has.account has.rest) (omega (arith, has.passes.counted, none))
        has.passes.passes;
    holds = record { last = reader.reader; reads = has.reads; holds = holds };
  }

  pub makes_resumed : (machine : Machine) → reader.begun ≡ true → reader.left ≡ 0
      → MakesMachine reader.reader machine → MakesResumed reader machine
  makes_resumed machine begun none makes = (
    makes.0,
    λ count first text is has. ends_at (λ last. MakesMachine last machine) begun none makes count first text
        has,
  )

  pub lacks_resumed : (why : RecoveryFault) → reader.begun ≡ true → reader.left ≡ 0
      → LacksAccount reader.reader why → LacksResumed reader why
  lacks_resumed why begun none lacks count first text is has =
      inr (ends_at (λ last. LacksAccount last why) begun none lacks count first text has)

too_short : (begun : Bool) (count left : ℕ) (text had rest account : List ℕ) → IsPartOf begun text had
    → PassesSome count left had rest → (begun ≡ true → 0 < left) → IsJournalOf text account
    → length (lines account) < count
too_short false count left text had rest account is passes some other =
    absurd (omega (arith, ap length (sym is.0 ∙ other), length-append format account))
too_short true count left text had rest account is passes some other =
    let none = passes.none (some refl) in
    let all : account ≡ passes.passes.passed =
    one_account text account had other is ∙ passes.passes.parts
    ∙ ap (λ (l : List ℕ). passes.passes.passed ++ l) none ∙ append-nil passes.passes.passed in
    omega (
      arith,
      ap (λ (l : List ℕ). length (lines l)) all,
      passes.passes.counted,
      passes.counted,
      some refl,
    )

pub lacks_lines : (reader : ResumingReader) → (reader.begun ≡ true → 0 < reader.left)
    → LacksResumed reader fault.TooFew
lacks_lines reader some count first text is has = inl (
  refl,
  λ account other. too_short reader.begun count reader.left text has.account has.rest account has.is
      has.passes
      some other,
)

-- ---- a file that is opened so

entries_are : (lines_in : List (List ℕ)) (machine : Machine) → HoldsAccountOf lines_in machine
    → length lines_in ≡ (state_in machine).length + 1
entries_are lines_in machine held = omega (
  arith,
  ap length held.read.parts,
  zip_length max_identifier held.read.rest held.account.entries held.read.says_entries.one_by_one,
  ap (λ (s : State). s.length) held.holds.state,
  (agreed held.account held.holds.legal).length,
)

some_bytes : (text : List ℕ) (n : ℕ) → length (lines text) ≡ n + 1 → 0 < length text
some_bytes [] n is = absurd (omega (arith, is))
some_bytes (x ∷ text) n is = omega arith

module _ (machine : Machine) (first : ReaderParts)
    (reads : (text account : List ℕ) → IsJournalOf text account → HoldsAccountOf (lines account) machine
    → HasReadJournal text first) where
  abbrev count : ℕ
  count = (state_in machine).length + 1

  pub resumed_epoch : (text : List ℕ) (epoch : ℕ) (reader : ResumingReader)
      → HasPassedOver count first [] reader
      → first.epoch ≡ epoch → IsLines text → (made : Machine)
      → MakesOf ResumesOn MakesResumed reader text made
      → (state_in made).epoch ≡ epoch
  resumed_epoch text epoch reader none same is made all =
      let ends = (all.made.1 count first text is (all.taken count first [] refl none)).holds in
      ends.holds.1 ∙ ends.reads.0 ∙ same

  module _ (text account rest more : List ℕ) (is : IsJournalOf text account)
      (passes : PassesLines count account rest) (goes : GoesOnFrom machine (text ++ more)) where
    front_whole : IsLines (format ++ passes.passed)
    front_whole = lines_end format passes.passed passes.whole
        (some_bytes passes.passed (state_in machine).length passes.counted)

    front_text : (format ++ passes.passed) ++ rest ≡ text
    front_text = append_assoc format passes.passed rest
        ∙ ap (λ (l : List ℕ). format ++ l) (sym passes.parts) ∙ sym is

    -- what is passed over are the lines of the account whose state the machine holds
    front_same : lines passes.passed ≡ goes.front
    front_same =
        let all : goes.account ≡ account ++ more =
        one_account (text ++ more) goes.account (account ++ more) goes.is
        (ap (λ (l : List ℕ). l ++ more) is ∙ append_assoc format account more) in
        let split : account ++ more ≡ passes.passed ++ (rest ++ more) =
        ap (λ (l : List ℕ). l ++ more) passes.parts ∙ append_assoc passes.passed rest more in
        same_front (lines passes.passed) goes.front (lines (rest ++ more)) goes.later
        (passes.counted ∙ sym (entries_are goes.front machine goes.holds))
        (sym (lines_on passes.passed (rest ++ more) passes.whole) ∙ ap lines (sym split ∙ sym all)
        ∙ goes.parts)

    front_read : HasReadJournal (format ++ passes.passed) first
    front_read = reads (format ++ passes.passed) passes.passed refl
        (subst (λ (l : List (List ℕ)). HoldsAccountOf l machine) (sym front_same) goes.holds)

    pub all_read : (last : ReaderParts) → ReadsTextOn first rest last → HasReadJournal text last
    all_read last on = subst (λ (l : List ℕ). HasReadJournal l last) front_text
        (on.1 (format ++ passes.passed) front_whole front_read)

    pub all_refused : (why : RecoveryFault) → RefusesTextOn first rest why → IsFaultOfFront text why
    all_refused why refused = subst (λ (l : List ℕ). IsFaultOfFront l why) front_text
        (refused (format ++ passes.passed) front_whole front_read)

  module _ (text : List ℕ) (epoch : ℕ) (reader : ResumingReader) (none : HasPassedOver count first [] reader)
      (same : first.epoch ≡ epoch) (is : IsLines text) (goes : GoesOnFrom machine text) where
    whole_goes : GoesOnFrom machine (text ++ [])
    whole_goes = subst (GoesOnFrom machine) (sym (append-nil text)) goes

    pub resumed_made : (made : Machine) → MakesOf ResumesOn MakesResumed reader text made
        → HoldsJournal epoch text made
    resumed_made made all =
        let after = all.made.1 count first text is (all.taken count first [] refl none) in
        let ends = after.holds in
        subst (λ (n : ℕ). HoldsJournal n text made) (ends.reads.0 ∙ same)
        (ends.holds.2 text is (all_read text after.account after.rest [] after.is after.passes whole_goes
        ends.last ends.reads))

    refused_front : (why : RecoveryFault) (front more : List ℕ) → front ++ more ≡ text → IsLines front
        → RefusesResumed count first front why → IsFaultOfText epoch text why
    refused_front why front more parts whole_front refused =
        subst (λ (l : List ℕ). IsFaultOfText epoch l why) parts
        (of_more front more whole_front epoch why (elim refused [
          | inl told ↦ told
          | inr after ↦ all_refused front after.account after.rest more after.is after.passes
              (subst (GoesOnFrom machine) (sym parts) goes) why after.holds
        ]))

    refused_end : (why : RecoveryFault) → ((why ≡ fault.TooFew) × IsTooShort count text)
        ⊎ AreAfter count text (EndsAt first (λ last. LacksAccount last why)) → IsFaultOfText epoch text why
    refused_end why (inl short) = absurd (omega (
      arith,
      short.1 goes.account goes.is,
      ap length goes.parts,
      length-append goes.front goes.later,
      entries_are goes.front machine goes.holds,
    ))
    refused_end why (inr after) =
        let ends = after.holds in
        subst (λ (n : ℕ). IsFaultOfText n text why) (ends.reads.0 ∙ same)
        (ends.holds text is (all_read text after.account after.rest [] after.is after.passes whole_goes
        ends.last ends.reads))

    pub resumed_refused : (why : RecoveryFault)
        → RefusesFront RefusesResuming reader text why ⊎ LacksOf ResumesOn LacksResumed reader text why
        → IsFaultOfText epoch text why
    resumed_refused why refused = elim refused [
      | inl front ↦ refused_front why front.front front.more front.whole front.whole_lines
          (front.refused count first [] refl none)
      | inr all ↦ refused_end why (all.lacking count first text is (all.taken count first [] refl none))
    ]

pub each_ok : {T E : Type 0} (r : Result T E) (P Q : T → Type 0) → ((x : T) → P x → Q x) → IfOk r P
    → IfOk r Q
each_ok (Ok x) P Q so p = so x p
each_ok (Err e) P Q so p = tt

pub each_on_ok : {T E : Type 0} (r : Result T E) (P Q : Type 0) → (P → Q) → OnOk r P → OnOk r Q
each_on_ok (Ok x) P Q so p = so p
each_on_ok (Err e) P Q so p = tt

pub each_err : {T E : Type 0} (r : Result T E) (P Q : E → Type 0) → ((e : E) → P e → Q e) → IfErr r P
    → IfErr r Q
each_err (Ok x) P Q so p = tt
each_err (Err e) P Q so p = so e p
