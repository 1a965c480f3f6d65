-- The fields of an entry's line: they are cut in one way.
use Rattle.std.proofs.Common.{◌≡◌, ℕ, List, ◌∷◌, ◌++◌, sym, ap, subst, ◌∙◌, append_assoc, arith}
use Rattle.rv_book.specs.Steps.{max_moment}
use Rattle.rv_text.specs.Number.{WritesUpTo}
use Rattle.rv_book.specs.lines.Reading.{CutsFields, HasFieldsUpTo, SaysPartnersUpTo}
use Rattle.rv_book.proofs.OfLines.Commas.{partners_one}
use Rattle.rv_book.proofs.OfLines.Cutting.{Lacks, cut_once, not_lacking}
use Rattle.rv_book.proofs.OfLines.Plain.{plain_lacks, plainly_one}

-- a line by its first space and the bytes after it
parts_cut : (line moment partners field : List ℕ) → line ≡ moment ++ 32 ∷ partners ++ 32 ∷ field
    → line ≡ moment ++ 32 ∷ (partners ++ 32 ∷ field)
parts_cut line moment partners field is = is ∙ append_assoc moment (32 ∷ partners) (32 ∷ field)

module _ {line : List ℕ} {moment : ℕ} {partners field : List ℕ} (cuts : CutsFields line moment partners field)
  where
    pub cut_line : line ≡ cuts.moment_field ++ 32 ∷ (partners ++ 32 ∷ field)
    cut_line = parts_cut line cuts.moment_field partners field cuts.parts

    -- a line without a space has no fields
    pub has_space : Lacks 32 line → ⊥
    has_space lacks = not_lacking 32 cuts.moment_field (partners ++ 32 ∷ field) (subst (Lacks 32) cut_line
        lacks)

    -- what stands before the first space is the moment
    pub cut_first : (front rest : List ℕ) → Lacks 32 front → line ≡ front ++ 32 ∷ rest
        → (cuts.moment_field ≡ front) × (partners ++ 32 ∷ field ≡ rest)
    cut_first front rest lacks is =
        cut_once 32 cuts.moment_field (partners ++ 32 ∷ field) front rest (plain_lacks 32 cuts.moment_field
        moment (omega arith) cuts.says_moment.0) lacks (sym cut_line ∙ is)

    pub has_moment : (front rest : List ℕ) → Lacks 32 front → line ≡ front ++ 32 ∷ rest
        → WritesUpTo max_moment front moment
    has_moment front rest lacks is = subst (λ f. WritesUpTo max_moment f moment) (cut_first front rest lacks
        is).0 cuts.says_moment

    pub has_second_space : (front rest : List ℕ) → Lacks 32 front → line ≡ front ++ 32 ∷ rest → Lacks 32 rest
        → ⊥
    has_second_space front rest lacks is none = not_lacking 32 partners field
        (subst (Lacks 32) (sym (cut_first front rest lacks is).1) none)

-- the parts that were cut, in one line
pub parts_joined : (line moment rest partners field : List ℕ) → line ≡ moment ++ 32 ∷ rest
    → rest ≡ partners ++ 32 ∷ field → line ≡ moment ++ 32 ∷ partners ++ 32 ∷ field
parts_joined line moment rest partners field is is' =
    is ∙ ap (λ r. moment ++ 32 ∷ r) is' ∙ sym (append_assoc moment (32 ∷ partners) (32 ∷ field))

-- a line has one moment, one partners' field and one field after them
pub cuts_one : {line : List ℕ} {m m' : ℕ} {p p' f f' : List ℕ} → CutsFields line m p f
    → CutsFields line m' p' f' → (m ≡ m') × (p ≡ p') × (f ≡ f')
cuts_one {m = m} {m' = m'} {p = p} {p' = p'} {f = f} {f' = f'} a b =
    let front = plain_lacks 32 a.moment_field m (omega arith) a.says_moment.0 in
    let rest = (cut_first b a.moment_field (p ++ 32 ∷ f) front (cut_line a)).1 in
    let behind = cut_once 32 p f p' f' a.no_space b.no_space (sym rest) in (
      plainly_one a.moment_field m m' a.says_moment.0 (has_moment b a.moment_field (p ++ 32 ∷ f) front
          (cut_line a)).0,
      behind.0,
      behind.1,
    )

-- and so one list of partners
pub fields_one : {most : ℕ} {line : List ℕ} {m m' : ℕ} {p p' f f' : List ℕ} → HasFieldsUpTo most line m p f
    → HasFieldsUpTo most line m' p' f' → (m ≡ m') × (p ≡ p') × (f ≡ f')
fields_one {most = most} {p = p} {p' = p'} a b =
    let same = cuts_one a.cut b.cut in (
      same.0,
      partners_one most b.partners_field p p' (subst (λ g. SaysPartnersUpTo most g p) same.1 a.says_partners)
          b.says_partners,
      same.2,
    )
