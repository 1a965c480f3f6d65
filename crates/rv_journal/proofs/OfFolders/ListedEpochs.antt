-- The epochs that a folder in memory lists: those whose name a change gave, and which still have a file.
use Rattle.std.proofs.Common.{◌≡◌, ◌<◌, ◌≤◌, ◌+◌, ◌⊎◌, ◌∙◌, inl, inr, ⊎_elim, ℕ, Bool, true, false, cond}
use Rattle.std.proofs.Common.{List, [], ◌∷◌, ◌++◌}
use Rattle.std.proofs.Common.{get_or, length, map, take}
use Rattle.std.proofs.Common.{Option, None, Some, ap, arith, refl, subst, sym}
use Rattle.std.specs.List.{Contains}
use Rattle.std.specs.Prelude.{◌↔◌, IsTrue, is_some}
use Rattle.std.proofs.lemmas.Bool.{false≢true}
use Rattle.std.proofs.lemmas.Bool.Decides.{nat_tests}
use Rattle.std.proofs.lemmas.List.{map_push, take_all, take_more}
use Rattle.std.proofs.lemmas.List.Elements.{Contains-append_left, Contains-append_right, Contains-push}
use Rattle.std.proofs.lemmas.List.Elements.{Contains-push_cases}
use Rattle.rv_journal.specs.folders.Folder.{GivenFile, FileNames, is_same_name, or_else}
use Rattle.rv_journal.specs.folders.Memory.{after_change, after_changes, given_file, name_given, names_after}
use Rattle.rv_journal.specs.folders.Present.{HasAccount}
use Rattle.rv_journal.specs.declared.folders.folder.FileName.{FileName}
use Rattle.rv_journal.specs.declared.folders.folder.FileName.TheVariants.{Account, Unready}
use Rattle.rv_journal.specs.declared.folders.testing.memory.NameChange.{NameChange}
use Rattle.rv_journal.specs.declared.folders.testing.memory.NameChange.TheVariants.{Made, Renamed}

-- Those of all changes, of the first ones.
pub record ListsEpochs (all so_far : List NameChange) (epochs : List ℕ) : Type 0 where
  pub real : (e : ℕ) → Contains epochs e → HasAccount (names_after all) e
  pub listed : (e : ℕ) → Contains (map name_given so_far) (Account e) → HasAccount (names_after all) e
      → Contains epochs e

no_element : {T : Type 0} (x : T) → Contains [] x → ⊥
no_element x has = omega (arith, has.1)

pub lists_none : (all : List NameChange) → ListsEpochs all [] []
lists_none all = record {
  real = λ e has. absurd (no_element e has);
  listed = λ e given has. absurd (no_element (Account e) given);
}

abbrev number_of : Option ℕ → ℕ
number_of (Some n) = n
number_of None = 0

module _ (all so_far : List NameChange) (epochs : List ℕ) (change : NameChange)
    (had : ListsEpochs all so_far epochs) where
  given_before : (e : ℕ) → Contains (map name_given (so_far ++ change ∷ [])) (Account e)
      → Contains (map name_given so_far) (Account e) ⊎ (name_given change ≡ Account e)
  given_before e given = Contains-push_cases (map name_given so_far) (name_given change) (Account e)
      (subst (λ (l : List FileName). Contains l (Account e)) (map_push name_given so_far change) given)

  pub lists_pushed : (epoch : ℕ) → HasAccount (names_after all) epoch
      → ((e : ℕ) → name_given change ≡ Account e → HasAccount (names_after all) e → Some epoch ≡ Some e)
      → ListsEpochs all (so_far ++ change ∷ []) (epochs ++ epoch ∷ [])
  lists_pushed epoch has is = record {
    real = λ e listed. ⊎_elim (λ (was : Contains epochs e). had.real e was)
        (λ (same : epoch ≡ e). subst (HasAccount (names_after all)) same has)
        (Contains-push_cases epochs epoch e listed);
    listed = λ e given has_e. ⊎_elim
        (λ (was : Contains (map name_given so_far) (Account e)).
        Contains-append_left epochs (epoch ∷ []) e (had.listed e was has_e))
        (λ (now : name_given change ≡ Account e). subst (Contains (epochs ++ epoch ∷ []))
        (ap number_of (is e now has_e)) (Contains-push epochs epoch)) (given_before e given);
  }

  pub lists_same : ((e : ℕ) → name_given change ≡ Account e → HasAccount (names_after all) e → ⊥)
      → ListsEpochs all (so_far ++ change ∷ []) epochs
  lists_same none = record {
    real = had.real;
    listed = λ e given has. ⊎_elim
        (λ (was : Contains (map name_given so_far) (Account e)). had.listed e was has)
        (λ (now : name_given change ≡ Account e). absurd (none e now has)) (given_before e given);
  }

same_name : (a b : FileName) → is_same_name a b ≡ true → b ≡ a
same_name (Account a) (Account b) is = ap Account (grind (arith, nat_tests, is))
same_name (Account a) Unready is = absurd (false≢true is)
same_name Unready (Account b) is = absurd (false≢true is)
same_name Unready Unready is = refl

either : (b : Bool) (x y was : Option GivenFile) (G : Type 0) → IsTrue (is_some (cond b x y)) → (b ≡ true → G)
    → (IsTrue (is_some y) → IsTrue (is_some was)) → IsTrue (is_some was) ⊎ G
either true x y was G is so rest = inr (so refl)
either false x y was G is so rest = inl (rest is)

not_none : (b : Bool) (was : Option GivenFile) → IsTrue (is_some (cond b None was)) → IsTrue (is_some was)
not_none true was is = absurd (false≢true is)
not_none false was is = is

-- a name that stands for a file after a change did before, or was given by it
stood : (change : NameChange) (name : FileName) (was : Option GivenFile)
    → IsTrue (is_some (after_change change name was))
    → IsTrue (is_some was) ⊎ (name_given change ≡ name)
stood (Made made file) name was is = either (is_same_name name made) (or_else was (Some (given_file file)))
    was was
    (made ≡ name) is (same_name name made) (λ is. is)
stood (Renamed from to file) name was is = either (is_same_name name to) (Some (given_file file))
    (cond (is_same_name name from) None was) was (to ≡ name) is (same_name name to)
    (not_none (is_same_name name from) was)

-- a name that stands for a file was given by a change, or stood for one before all of them
pub given_once : (changes : List NameChange) (names : FileNames) (name : FileName)
    → IsTrue (is_some (after_changes changes names name))
    → IsTrue (is_some (names name)) ⊎ Contains (map name_given changes) name
given_once [] names name is = inl is
given_once (change ∷ changes) names name is = ⊎_elim
    (λ (before : IsTrue (is_some (after_change change name (names name)))).
    ⊎_elim (λ (was : IsTrue (is_some (names name))). inl was)
    (λ (now : name_given change ≡ name). inr (0, omega arith, now)) (stood change name (names name) before))
    (λ (later : Contains (map name_given changes) name).
    inr (Contains-append_right (name_given change ∷ []) (map name_given changes) name later))
    (given_once changes (λ n. after_change change n (names n)) name is)

-- the same after the next one of all changes, by what was found of it
module _ (all : List NameChange) (i : ℕ) (d : NameChange) (epochs : List ℕ) (found : Option ℕ)
    (low : i < length all) (had : ListsEpochs all (take i all) epochs)
    (given : (e : ℕ) → name_given (get_or all i d) ≡ Account e → HasAccount (names_after all) e
    → found ≡ Some e) where
  one_more : take i all ++ get_or all i d ∷ [] ≡ take (i + 1) all
  one_more = sym (take_more all i d low)

  pub lists_found : (epoch : ℕ) (now : List ℕ) → found ≡ Some epoch
      → ((e : ℕ) → found ≡ Some e → HasAccount (names_after all) e) → now ≡ epochs ++ epoch ∷ []
      → ListsEpochs all (take (i + 1) all) now
  lists_found epoch now is has same =
      subst (λ (l : List ℕ). ListsEpochs all (take (i + 1) all) l) (sym same)
      (subst (λ (l : List NameChange). ListsEpochs all l (epochs ++ epoch ∷ [])) one_more
      (lists_pushed all (take i all) epochs (get_or all i d) had epoch (has epoch is)
      (λ e named e_has. sym is ∙ given e named e_has)))

  pub lists_not : (now : List ℕ) → ((e : ℕ) → found ≡ Some e → ⊥) → now ≡ epochs
      → ListsEpochs all (take (i + 1) all) now
  lists_not now none same =
      subst (λ (l : List ℕ). ListsEpochs all (take (i + 1) all) l) (sym same)
      (subst (λ (l : List NameChange). ListsEpochs all l epochs) one_more
      (lists_same all (take i all) epochs (get_or all i d) had (λ e named e_has. none e (given e named
      e_has))))

pub lists_all : (all : List NameChange) (i : ℕ) (epochs : List ℕ) → length all ≤ i
    → ListsEpochs all (take i all) epochs
    → (e : ℕ) → Contains epochs e ↔ HasAccount (names_after all) e
lists_all all i epochs end had e =
    let lists = subst (λ (l : List NameChange). ListsEpochs all l epochs) (take_all i all end) had in (
      lists.real e,
      λ has. lists.listed e (⊎_elim (λ (none : IsTrue false). absurd (false≢true none))
          (λ (given : Contains (map name_given all) (Account e)). given)
          (given_once all (λ n. None) (Account e) has)) has,
    )
