-- How a journal's format is cut from its first line, and that there is one way.
use Rattle.std.proofs.Common.{◌≡◌, ◌≢◌, ◌++◌, ◌∷◌, ◌∙◌, ℕ, List, [], Bool, false, nat_eq}
use Rattle.std.proofs.Common.{refl, subst, sym}
use Rattle.std.specs.Prelude.{codes}
use Rattle.std.proofs.lemmas.Bool.{false≢true}
use Rattle.std.proofs.lemmas.Slice.Eq.{slice_eq-Decides}
use Rattle.std.specs.Cmp.{unsigned_Decides}
use Rattle.std.specs.Cmp.Lexicographic.{pointwise}
use Rattle.rv_text.specs.Number.{WritesIdentifier}
use Rattle.rv_book.proofs.OfLines.Cutting.{Lacks, cut_once, not_lacking}
use Rattle.rv_book.proofs.OfLines.OneLine.{greater_lack}
use Rattle.rv_store.specs.Format.{CutsFormat, HasNoFormat, IsJournalOf}

-- no space, no format
pub no_cut : (text digits rest : List ℕ) → Lacks 32 text → CutsFormat text digits rest → ⊥
no_cut text digits rest lacks cuts =
    not_lacking 32 (codes "journal") (digits ++ 32 ∷ rest) (subst (λ (l : List ℕ). Lacks 32 l) cuts.parts
    lacks)

-- what stands before and after the first space
pub first_word : (text word after digits rest : List ℕ) → text ≡ word ++ 32 ∷ after → Lacks 32 word
    → CutsFormat text digits rest → (word ≡ codes "journal") × (after ≡ digits ++ 32 ∷ rest)
first_word text word after digits rest is lacks cuts =
    cut_once 32 word after (codes "journal") (digits ++ 32 ∷ rest) lacks
    (greater_lack 32 (codes "journal") refl) (sym is ∙ cuts.parts)

pub no_digits : (after digits rest : List ℕ) → after ≡ digits ++ 32 ∷ rest → Lacks 32 after → ⊥
no_digits after digits rest is lacks = not_lacking 32 digits rest (subst (λ (l : List ℕ). Lacks 32 l) is
    lacks)

-- and so the digits, and what comes after them
pub same_cut : (text digits rest others more : List ℕ) → CutsFormat text digits rest
    → CutsFormat text others more → (digits ≡ others) × (rest ≡ more)
same_cut text digits rest others more cuts again =
    cut_once 32 digits rest others more cuts.no_space again.no_space
    (first_word text (codes "journal") (digits ++ 32 ∷ rest) others more cuts.parts
    (greater_lack 32 (codes "journal") refl) again).1

-- this format is cut so
cuts_this : (text account : List ℕ) → IsJournalOf text account → CutsFormat text (codes "1") account
cuts_this text account is = record { parts = is; no_space = greater_lack 32 (codes "1") refl }

pub none_cut : (text : List ℕ) → ((digits rest : List ℕ) → CutsFormat text digits rest → ⊥) → text ≢ []
    → HasNoFormat text
none_cut text none some = record {
  some = some;
  this = λ account is. none (codes "1") account (cuts_this text account is);
  other = λ version is differs. none is.0 is.1 is.2;
}

pub one_number : (digits : List ℕ) (n m : ℕ) → WritesIdentifier digits n → WritesIdentifier digits m → n ≡ m
one_number digits n m first second = first.0.1 ∙ sym second.0.1

-- digits that aren't this version's, and say no other one
pub not_this : (text digits rest : List ℕ) → CutsFormat text digits rest → (digits ≡ codes "1" → ⊥)
    → ((n : ℕ) → WritesIdentifier digits n → n ≢ 1 → ⊥) → text ≢ [] → HasNoFormat text
not_this text digits rest cuts other none some = record {
  some = some;
  this = λ account is. other (same_cut text digits rest (codes "1") account cuts (cuts_this text account
      is)).0;
  other = λ version is differs. none version
      (subst (λ (l : List ℕ). WritesIdentifier l version)
      (sym (same_cut text digits rest is.0 is.1 cuts is.2).0) is.3) differs;
}

-- digits that were compared with others
pub other_digits : (digits other : List ℕ) (same : Bool) → same ≡ pointwise nat_eq digits other → same ≡ false
    → other ≡ codes "1" → digits ≡ codes "1" → ⊥
other_digits digits other same compared differs is are =
    false≢true (sym differs
    ∙ (slice_eq-Decides unsigned_Decides digits other same compared).1 (are ∙ sym is))
