-- Fields are cut in one way.
use Rattle.std.proofs.Common.{◌≡◌, ◌∷◌, [], ◌++◌, ◌∙◌, ℕ, List, Some, sym, subst, arith, refl, ap}
use Rattle.std.proofs.Common.{drop, length, take}
use Rattle.rv_book.proofs.OfLines.Cutting.{Lacks, cut_once, not_lacking}
use Rattle.rv_book.proofs.OfLines.Plain.{plain_lacks, plainly_one}
use Rattle.rv_checkpoint.specs.Fields.{CutsNumber, CutsTexts, CutsVersion, max_field}
use Rattle.rv_text.specs.Number.{WritesUpTo}
use Rattle.rv_text.specs.Versions.{number_of_version, version_of}
use Rattle.rv_text.specs.declared.version.Version.{Version}
use Rattle.rv_text.specs.declared.version.Version.TheVariants.{One, Two}

module _ {fields : List ℕ} {n : ℕ} {rest : List ℕ} (cuts : CutsNumber fields n rest) where
  no_space : Lacks 32 cuts.field
  no_space = plain_lacks 32 cuts.field n (omega arith) cuts.says.0

  -- fields without a space have no number
  pub has_space : Lacks 32 fields → ⊥
  has_space lacks = not_lacking 32 cuts.field rest (subst (Lacks 32) cuts.parts lacks)

  -- what stands before the first space is the number
  pub cut_there : (front after : List ℕ) → Lacks 32 front → fields ≡ front ++ 32 ∷ after
      → (cuts.field ≡ front) × (rest ≡ after)
  cut_there front after lacks is = cut_once 32 cuts.field rest front after no_space lacks (sym cuts.parts
      ∙ is)

  pub has_number : (front after : List ℕ) → Lacks 32 front → fields ≡ front ++ 32 ∷ after
      → WritesUpTo max_field front n
  has_number front after lacks is = subst (λ f. WritesUpTo max_field f n) (cut_there front after lacks is).0
      cuts.says

-- one number, and one rest
pub cut_one : {fields : List ℕ} {n m : ℕ} {rest after : List ℕ} → CutsNumber fields n rest
    → CutsNumber fields m after → (n ≡ m) × (rest ≡ after)
cut_one {n = n} {m = m} {rest = rest} {after = after} a b =
    let there = cut_there b a.field rest (no_space a) a.parts in (
      plainly_one a.field n m a.says.0 (has_number b a.field rest (no_space a) a.parts).0,
      sym there.1,
    )

-- a version is that of its number
pub version_number : (version : Version) → version_of (number_of_version version) ≡ Some version
version_number One = refl
version_number Two = refl

-- and no other one has it
pub same_version : (version other : Version) → number_of_version version ≡ number_of_version other
    → version ≡ other
same_version version other same = let told : Some version ≡ Some other = sym (version_number version)
    ∙ ap version_of same ∙ version_number other in cc

pub version_one : {fields : List ℕ} {version other : Version} {rest after : List ℕ}
    → CutsVersion fields version rest → CutsVersion fields other after → (version ≡ other) × (rest ≡ after)
version_one {version = version} {other = other} a b =
    let same = cut_one a b in (same_version version other same.0, same.1)

-- ---- a text by its length

take_front : (text body : List ℕ) → take (length text) (text ++ body) ≡ text
take_front [] body = refl
take_front (x ∷ text) body = ap (λ l. x ∷ l) (take_front text body)

drop_front : (text body : List ℕ) → drop (length text) (text ++ body) ≡ body
drop_front [] body = refl
drop_front (x ∷ text) body = drop_front text body

same_texts : (text text' body body' : List ℕ) → length text ≡ length text' → text ++ body ≡ text' ++ body'
    → (text ≡ text') × (body ≡ body')
same_texts text text' body body' long same = (
  sym (take_front text body) ∙ ap (take (length text)) same ∙ ap (λ n. take n (text' ++ body')) long
      ∙ take_front text' body',
  sym (drop_front text body) ∙ ap (drop (length text)) same ∙ ap (λ n. drop n (text' ++ body')) long
      ∙ drop_front text' body',
)

pub texts_one : {fields text text' body body' : List ℕ} → CutsTexts fields text body
    → CutsTexts fields text' body' → (text ≡ text') × (body ≡ body')
texts_one {text = text} {text' = text'} {body = body} {body' = body'} a b =
    let cut = cut_one a b in same_texts text text' body body' cut.0 cut.1
