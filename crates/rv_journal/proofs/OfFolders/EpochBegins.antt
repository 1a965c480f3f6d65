-- What a crash leaves of a folder's names while an epoch begins.
use Rattle.std.proofs.Common.{◌≡◌, ◌≢◌, ◌⊎◌, ◌∙◌, inl, inr, ⊎_elim, ℕ, Bool, false, true, cond, List, arith}
use Rattle.std.proofs.Common.{ap, refl, subst, sym}
use Rattle.std.specs.Prelude.{◌==◌, Option, None, Some}
use Rattle.std.proofs.lemmas.Bool.Decides.{nat_tests}
use Rattle.rv_journal.specs.Device.{Disk}
use Rattle.rv_journal.specs.Text.{before_zero}
use Rattle.rv_journal.specs.folders.Begun.{BeginsEpoch, HasTextSince, IsAccountIn, IsOtherName, LeavesBegun}
use Rattle.rv_journal.specs.folders.Folder.{ChangesNames, Directory, GivenFile, KeepsNames, FileNames, given}
use Rattle.rv_journal.specs.folders.Folder.{given_now}
use Rattle.rv_journal.specs.folders.Folder.{name_made, or_else, renamed}
use Rattle.rv_journal.specs.declared.folders.folder.FileName.{FileName}
use Rattle.rv_journal.specs.declared.folders.folder.FileName.TheVariants.{Account, Unready}

is_it : (n : ℕ) → (n == n) ≡ true
is_it n = grind (arith, nat_tests)

is_other : (a b : ℕ) → a ≢ b → (a == b) ≡ false
is_other a b other = grind (arith, nat_tests, other)

-- what the account of the new epoch stands for once a file has its name
pub is_named : (epoch : ℕ) (file : GivenFile) (names : FileNames)
    → renamed Unready (Account epoch) file names (Account epoch) ≡ Some file
is_named epoch file names =
    ap (λ (b : Bool). cond b (Some file) (given Unready None names (Account epoch))) (is_it epoch)

pub not_named : (epoch : ℕ) (file : GivenFile) (names : FileNames) (name : FileName) → IsOtherName epoch name
    → renamed Unready (Account epoch) file names name ≡ names name
not_named epoch file names (Account other) is =
    ap (λ (b : Bool). cond b (Some file) (names (Account other))) (is_other other epoch is)
not_named epoch file names Unready is = absurd is

pub not_made : (epoch : ℕ) (file : GivenFile) (names : FileNames) (name : FileName) → IsOtherName epoch name
    → name_made Unready file names name ≡ names name
not_made epoch file names (Account other) is = refl
not_made epoch file names Unready is = absurd is

-- what it is while none of its names are synced
either_same : {T : Type 0} (name old new other : T) → (name ≡ old) ⊎ (name ≡ new) → new ≡ old → old ≡ other
    → name ≡ other
either_same name old new other is same before =
    ⊎_elim (λ (was : name ≡ old). was ∙ before) (λ (now : name ≡ new). now ∙ same ∙ before) is

module _ {F D : Type 0} (directory : Directory F) (disk : Disk D) (text : List ℕ) (epoch : ℕ) (old : F) where
  -- An epoch has begun so far, from an old state of the folder to this one.
  pub record HasBegun (now : F) : Type 0 where
    pub crash : (names : FileNames) → directory.may_leave now names
        → (before : FileNames) × directory.may_leave old before × BeginsEpoch disk text epoch before names
    pub left : LeavesBegun directory disk text epoch old now

  abbrev BeginsFrom : FileNames → Type 0
  BeginsFrom names = (before : FileNames) × directory.may_leave old before × BeginsEpoch disk text epoch
      before names

  goes_on : (mid new : F) → HasBegun mid
      → ((names : FileNames) → directory.left new names → directory.left mid names ⊎ directory.may_leave new
      names)
      → ((names : FileNames) → directory.may_leave new names → BeginsFrom names) → HasBegun new
  goes_on mid new so_far time crash = record {
    crash = crash;
    left = λ names left. ⊎_elim (λ (was : directory.left mid names). so_far.left names was)
        (λ (now : directory.may_leave new names). inr (crash names now)) (time names left);
  }

  same_names : (names : FileNames) → directory.may_leave old names → BeginsFrom names
  same_names names left = (names, left, record { others = λ name is. refl; account = inl refl })

  pub not_begun : (now : F) → KeepsNames directory old now → HasBegun now
  not_begun now keeps = record {
    crash = λ names left. same_names names (keeps.crash names left);
    left = λ names left. ⊎_elim (λ (was : directory.left old names). inl was)
        (λ (is : directory.may_leave now names). inr (same_names names (keeps.crash names is)))
        (keeps.time names left);
  }

  pub begins_kept : (mid new : F) → HasBegun mid → KeepsNames directory mid new → HasBegun new
  begins_kept mid new so_far keeps = goes_on mid new so_far keeps.time
      (λ names left. so_far.crash names (keeps.crash names left))

  pub begins_made : (mid new : F) (file : GivenFile) → HasBegun mid
      → ChangesNames directory (name_made Unready file) mid new → HasBegun new
  begins_made mid new file so_far changes = goes_on mid new so_far changes.time (λ names left.
      let mixed = changes.crash names left in
      let was = so_far.crash mixed.0 mixed.1 in (
        was.0,
        was.1,
        record {
          others = λ name is. either_same (names name) (mixed.0 name) (name_made Unready file mixed.0 name)
              (was.0 name) (mixed.2 name) (not_made epoch file mixed.0 name is) (was.2.others name is);
          account =
              let same = either_same (names (Account epoch)) (mixed.0 (Account epoch))
              (mixed.0 (Account epoch)) (mixed.0 (Account epoch)) (mixed.2 (Account epoch)) refl refl in
              ⊎_elim (λ (none : mixed.0 (Account epoch) ≡ was.0 (Account epoch)). inl (same ∙ none))
              (λ (some : (d : D) × IsAccountIn disk text epoch d mixed.0).
              inr (some.0, (some.1.0, same ∙ some.1.1, some.1.2))) was.2.account;
        },
      ))

  pub begins_named : (mid new : F) (file : D) (given : GivenFile) → HasBegun mid
      → ChangesNames directory (renamed Unready (Account epoch) given) mid new
      → HasTextSince disk text given file → HasBegun new
  begins_named mid new file given so_far changes has = goes_on mid new so_far changes.time (λ names left.
      let mixed = changes.crash names left in
      let was = so_far.crash mixed.0 mixed.1 in (
        was.0,
        was.1,
        record {
          others = λ name is. either_same (names name) (mixed.0 name)
              (renamed Unready (Account epoch) given mixed.0 name) (was.0 name) (mixed.2 name)
              (not_named epoch given mixed.0 name is) (was.2.others name is);
          account = ⊎_elim (λ (same : names (Account epoch) ≡ mixed.0 (Account epoch)).
              ⊎_elim (λ (none : mixed.0 (Account epoch) ≡ was.0 (Account epoch)). inl (same ∙ none))
              (λ (some : (d : D) × IsAccountIn disk text epoch d mixed.0).
              inr (some.0, (some.1.0, same ∙ some.1.1, some.1.2))) was.2.account)
              (λ (now : names (Account epoch) ≡ renamed Unready (Account epoch) given mixed.0 (Account
              epoch)).
              inr (file, (given, now ∙ is_named epoch given mixed.0, has))) (mixed.2 (Account epoch));
        },
      ))

-- a file that was given its name when all of its text was stored
pub has_text : {D : Type 0} (disk : Disk D) (text : List ℕ) (seen file : D) → seen ≡ file
    → ((left : List ℕ) → disk.may_leave file left → before_zero left ≡ text)
    → HasTextSince disk text (given_now disk seen) file
has_text disk text seen file is stored = record {
  number = ap disk.number is;
  text = λ left since. stored left (disk.only_now file left
      (subst (λ (t : ℕ). disk.left_since file t left) (ap disk.moment is) since));
}

abbrev number_in : Option GivenFile → ℕ
number_in (Some file) = file.number
number_in None = 0

-- the file that a name stands for once it was opened
pub opened_number : (before : Option GivenFile) (now file : GivenFile)
    → or_else before (Some now) ≡ Some file → ((had : GivenFile) → before ≡ Some had → had.number ≡
    now.number)
    → file.number ≡ now.number
opened_number (Some had) now file is same =
    ap (λ (l : Option GivenFile). number_in l) (sym is) ∙ same had refl
opened_number None now file is same = ap (λ (l : Option GivenFile). number_in l) (sym is)

module _ {F D : Type 0} (directory : Directory F) (disk : Disk D) (text : List ℕ) (epoch : ℕ) (old first
    second : F)
  where
    -- names were looked at, and the file that is being made was opened
    pub is_opened : KeepsNames directory old first
        → (file : GivenFile) × ChangesNames directory (name_made Unready file) first second
        → HasBegun directory disk text epoch old second
    is_opened keeps changes = begins_made directory disk text epoch old first second changes.0
        (not_begun directory disk text epoch old first keeps) changes.1

    -- and once it had all of its text, it was given its name
    pub is_begun : (third : F) (file : D) (given : GivenFile) → KeepsNames directory old first
        → (made_file : GivenFile) × ChangesNames directory (name_made Unready made_file) first second
        → ChangesNames directory (renamed Unready (Account epoch) given) second third
        → HasTextSince disk text given file → HasBegun directory disk text epoch old third
    is_begun third file given keeps changes named has = begins_named directory disk text epoch old second
        third
        file given (is_opened keeps changes) named has
