-- What a change of the names of a folder in memory leaves.
use Rattle.std.proofs.Common.{◌≡◌, ◌≤◌, ◌<◌, ◌+◌, ◌∙◌, inl, inr, ⊎_elim, ℕ, List, [], ◌∷◌}
use Rattle.std.proofs.Common.{Bool, true, false, cond, Option, None, Some, length, option_map, take}
use Rattle.std.proofs.Common.{ap, arith, length-append, refl, subst, sym}
use Rattle.std.proofs.lemmas.List.{take_all, take-append-le}
use Rattle.std.proofs.lemmas.Bool.{cases_lt, false≢true}
use Rattle.rv_journal.specs.folders.Folder.{ChangesNames, GivenFile, FileNames, SameNames, is_same_name}
use Rattle.rv_journal.specs.folders.Folder.{name_made}
use Rattle.rv_journal.specs.folders.Folder.{or_else}
use Rattle.rv_journal.specs.folders.Folder.{renamed}
use Rattle.rv_journal.specs.folders.Memory.{IsChanged, IsMadeAs, MayMake, MemoryNames, after_change}
use Rattle.rv_journal.specs.folders.Memory.{given_file}
use Rattle.rv_journal.specs.folders.Memory.{memory_directory, names_after}
use Rattle.rv_journal.specs.declared.folders.folder.FileName.{FileName}
use Rattle.rv_journal.specs.declared.folders.testing.memory.FileNumber.{FileNumber}
use Rattle.rv_journal.specs.declared.folders.testing.memory.NameChange.{NameChange}
use Rattle.rv_journal.specs.declared.folders.testing.memory.NameChange.TheVariants.{Made, Renamed}
use Rattle.rv_journal.proofs.OfFolders.Changes.{after_last}

pub not_changed : (step : FileNames → FileNames) (names : MemoryNames) → ChangesNames memory_directory step
    names names
not_changed step names = record {
  tells = refl;
  seen = λ told name. inl refl;
  crash = λ left so. (left, so, λ name. inl refl);
  time = λ left so. inl so;
}

module _ (change : NameChange) (old new : MemoryNames) (is : IsChanged change old new) where
  pub seen_changed : (name : FileName)
      → names_after new.changes name ≡ after_change change name (names_after old.changes name)
  seen_changed name = ap (λ (l : List NameChange). names_after l name) is.0
      ∙ after_last old.changes change (λ n. None) name

  longer : length new.changes ≡ length old.changes + 1
  longer = ap length is.0 ∙ length-append old.changes (change ∷ [])

  sooner : (names : FileNames) (k : ℕ) → k ≤ length old.changes → SameNames names (names_after (take k
      new.changes))
      → SameNames names (names_after (take k old.changes))
  sooner names k le same name =
      same name ∙ ap (λ (l : List NameChange). names_after (take k l) name) is.0
      ∙ ap (λ (l : List NameChange). names_after l name) (take-append-le k old.changes (change ∷ []) le)

  later : (names : FileNames) (k : ℕ) → length old.changes < k → SameNames names (names_after (take k
      new.changes))
      → SameNames names (names_after new.changes)
  later names k more same name =
      same name ∙ ap (λ (l : List NameChange). names_after l name)
      (take_all k new.changes (omega (arith, more, longer)))

  pub names_changed : (step : FileNames → FileNames) → ((names : FileNames) (name : FileName)
      → after_change change name (names name) ≡ step names name) → old.stored ≤ length old.changes
      → ChangesNames memory_directory step old new
  names_changed step steps stored = record {
    tells = refl;
    seen = λ told name. inr (seen_changed name ∙ steps (names_after old.changes) name);
    crash = λ names left. ⊎_elim (λ (after : length old.changes < left.0). (
      names_after old.changes,
      (
        length old.changes,
        stored,
        omega arith,
        λ name. ap (λ (l : List NameChange). names_after l name)
            (sym (take_all (length old.changes) old.changes (omega arith))),
      ),
      λ name. inr (later names left.0 after left.3 name ∙ seen_changed name
          ∙ steps (names_after old.changes) name),
    ))
        (λ (was : left.0 ≤ length old.changes). (
          names,
          (left.0, subst (λ (n : ℕ). n ≤ left.0) is.1 left.1, was, sooner names left.0 was left.3),
          λ name. inl refl,
        ))
        (cases_lt (length old.changes) left.0);
    time = λ names left. ⊎_elim (λ (after : length old.changes < left.0). inr (
      left.0,
      omega (arith, is.1, stored, after),
      left.2,
      left.3,
    ))
        (λ (was : left.0 ≤ length old.changes). inl (left.0, left.1, was, sooner names left.0 was left.3))
        (cases_lt (length old.changes) left.0);
  }

-- a file whose number and moment are these
pub same_given : {number since other moment : ℕ} → number ≡ other → since ≡ moment
    → ◌≡◌ {A = GivenFile} (record { number = number; since = since }) (record {
      number = other;
      since = moment;
    })
same_given same at = λ i. record { number = same i; since = at i }

-- a name that may have been made
pub may_make : (name : FileName) (old new : MemoryNames) → MayMake name old new
    → old.stored ≤ length old.changes
    → (file : GivenFile) × ChangesNames memory_directory (name_made name file) old new
may_make name old new is stored = elim is [
  | inl same ↦ (
    record { number = 0; since = 0 },
    subst (λ (n : MemoryNames). ChangesNames memory_directory (name_made name (record {
      number = 0;
      since = 0;
    })) old n)
        (sym same) (not_changed (name_made name (record { number = 0; since = 0 })) old),
  )
  | inr one ↦ (
    given_file one.0,
    names_changed (Made name one.0) old new one.1 (name_made name (given_file one.0)) (λ names other. refl)
        stored,
  )
]

pub others_same : (name : FileName) (old new : MemoryNames) → MayMake name old new → (other : FileName)
    → is_same_name other name ≡ false → names_after new.changes other ≡ names_after old.changes other
others_same name old new is other not_it = elim is [
  | inl same ↦ ap (λ (n : MemoryNames). names_after n.changes other) same
  | inr one ↦ seen_changed (Made name one.0) old new one.1 other
      ∙ ap (λ (b : Bool). cond b (or_else (names_after old.changes other) (Some (given_file one.0)))
      (names_after old.changes other)) not_it
]

pub is_none : (file : Option FileNumber) → ((f : FileNumber) → file ≡ Some f → ⊥)
    → option_map given_file file ≡ None
is_none None not_some = refl
is_none (Some f) not_some = absurd (not_some f refl)

abbrev has_file : Option GivenFile → Bool
has_file (Some file) = true
has_file None = false

-- a name that stood for no file was made
pub is_made : (name : FileName) (file : FileNumber) (given : GivenFile) (old new : MemoryNames)
    → IsChanged (Made name file) old new → given_file file ≡ given → names_after old.changes name ≡ None
    → IsMadeAs name given old new
is_made name file given old new is same none = record {
  names = λ other. subst (λ (g : GivenFile). names_after new.changes other
      ≡ name_made name g (names_after old.changes) other) same (seen_changed (Made name file) old new is
      other);
  number = λ had stood. absurd (false≢true (ap has_file (sym none ∙ stood)));
}

-- a renaming, of which a folder is the view
module _ (from to : FileName) (number since : ℕ) (given : GivenFile) (view old new : MemoryNames)
    (is_view : old ≡ view) where
  abbrev file_was : FileNumber
  file_was = record { number = number; since = since }

  steps : number ≡ given.number → since ≡ given.since → (names : FileNames) (name : FileName)
      → after_change (Renamed from to file_was) name (names name) ≡ renamed from to given names name
  steps same at names name = λ i. renamed from to (record { number = same i; since = at i }) names name

  pub is_renamed : IsChanged (Renamed from to file_was) old new → number ≡ given.number → since ≡ given.since
      → SameNames (names_after new.changes) (renamed from to given (names_after view.changes))
  is_renamed is same at name =
      seen_changed (Renamed from to file_was) old new is name
      ∙ steps same at (names_after old.changes) name
      ∙ ap (λ (n : MemoryNames). renamed from to given (names_after n.changes) name) is_view

  pub names_renamed : IsChanged (Renamed from to file_was) old new → number ≡ given.number → since ≡
      given.since
      → old.stored ≤ length old.changes → ChangesNames memory_directory (renamed from to given) view new
  names_renamed is same at stored =
      subst (λ (n : MemoryNames). ChangesNames memory_directory (renamed from to given) n new) is_view
      (names_changed (Renamed from to file_was) old new is (renamed from to given) (steps same at) stored)

pub not_renamed : (from to : FileName) (given : GivenFile) (view old new : MemoryNames) → old ≡ view
    → new.changes ≡ old.changes → new.stored ≡ old.stored
    → ChangesNames memory_directory (renamed from to given) view new
not_renamed from to given view old new is_view changes stored =
    let same : new ≡ old = λ i. record { changes = changes i; stored = stored i } in
    subst (λ (n : MemoryNames). ChangesNames memory_directory (renamed from to given) view n)
    (sym (same ∙ is_view)) (not_changed (renamed from to given) view)
