-- Places with commas between, up to some greatest: which list a field says, and that it says one at most.
use Rattle.std.proofs.Common.{◌≡◌, ◌≢◌, ℕ, List, [], ◌∷◌, ◌++◌, refl, sym, ap, subst, ◌∙◌, append_assoc}
use Rattle.std.proofs.Common.{arith}
use Rattle.std.proofs.lemmas.List.Elements.{All-cons, All-nil}
use Rattle.rv_text.specs.Number.{WritesPlainly, WritesUpTo}
use Rattle.rv_book.specs.lines.Reading.{SaysPartnersUpTo, SaysPlacesUpTo, SaysSomePlacesUpTo}
use Rattle.rv_book.proofs.OfLines.Cutting.{Lacks, cut_once, not_lacking}
use Rattle.rv_book.proofs.OfLines.Plain.{minus_is_no_number, plain_lacks, plainly_one}

-- a place has no comma
place_lacks_comma : (most : ℕ) (field : List ℕ) (place : ℕ) → WritesUpTo most field place → Lacks 44 field
place_lacks_comma most field place says = plain_lacks 44 field place (omega arith) says.0

-- ---- of a field that is cut at its first comma

module _ (most : ℕ) (field piece after : List ℕ) (parts : field ≡ piece ++ 44 ∷ after) (lacks :
    Lacks 44 piece) where
  cut_too : (first rest : List ℕ) (place : ℕ) → field ≡ first ++ 44 ∷ rest
      → WritesUpTo most first place → (piece ≡ first) × (after ≡ rest)
  cut_too first rest place is says = cut_once 44 piece after first rest lacks (place_lacks_comma most first
      place
      says) (sym parts ∙ is)

  has_comma : (place : ℕ) → WritesUpTo most field place → ⊥
  has_comma place says = not_lacking 44 piece after (subst (Lacks 44) parts (place_lacks_comma most field
      place
      says))

  -- where the piece is no place, the field says none
  pub first_is_none : ((place : ℕ) → ¬ WritesUpTo most piece place) → (all : List ℕ)
      → ¬ SaysSomePlacesUpTo most field all
  first_is_none none [] says = says
  first_is_none none (place ∷ []) says = has_comma place says
  first_is_none none (place ∷ next ∷ more) says =
      none place (subst (λ f. WritesUpTo most f place)
      (sym (cut_too says.0 says.1 place says.2 says.3).0) says.3)

  -- nor where nothing is said after the comma
  pub none_behind : ((more : List ℕ) → ¬ SaysSomePlacesUpTo most after more) → (all : List ℕ)
      → ¬ SaysSomePlacesUpTo most field all
  none_behind none [] says = says
  none_behind none (place ∷ []) says = has_comma place says
  none_behind none (place ∷ next ∷ more) says =
      none (next ∷ more) (subst (λ r. SaysPlacesUpTo most r next more)
      (sym (cut_too says.0 says.1 place says.2 says.3).1) says.4)

  pub more_behind : (place : ℕ) (more : List ℕ) → WritesUpTo most piece place
      → SaysSomePlacesUpTo most after more → SaysSomePlacesUpTo most field (place ∷ more)
  more_behind place [] here says = absurd says
  more_behind place (next ∷ more) here says = (piece, after, parts, here, says)

-- a field without a comma is one place or none
pub last_is_none : (most : ℕ) (field : List ℕ) → Lacks 44 field
    → ((place : ℕ) → ¬ WritesUpTo most field place)
    → (all : List ℕ) → ¬ SaysSomePlacesUpTo most field all
last_is_none most field lacks none [] says = says
last_is_none most field lacks none (place ∷ []) says = none place says
last_is_none most field lacks none (place ∷ next ∷ more) says = not_lacking 44 says.0 says.1
    (subst (Lacks 44) says.2 lacks)

-- ---- how far a field is read

-- these places are said before the rest
pub record ListsPlaces (most : ℕ) (field rest places : List ℕ) : Type 0 where
  pub joined : (more : List ℕ) → SaysSomePlacesUpTo most rest more
      → SaysSomePlacesUpTo most field (places ++ more)
  pub none : ((more : List ℕ) → ¬ SaysSomePlacesUpTo most rest more) → (all : List ℕ)
      → ¬ SaysSomePlacesUpTo most field all

module _ {most : ℕ} {field rest places : List ℕ} (so_far : ListsPlaces most field rest places) where
  pub listed_more : (piece after : List ℕ) (place : ℕ) → rest ≡ piece ++ 44 ∷ after → Lacks 44 piece
      → WritesUpTo most piece place → ListsPlaces most field after (places ++ place ∷ [])
  listed_more piece after place parts lacks says = record {
    joined = λ more later. subst (SaysSomePlacesUpTo most field) (sym (append_assoc places (place ∷ []) more))
        (so_far.joined (place ∷ more) (more_behind most rest piece after parts lacks place more says later));
    none = λ nothing. so_far.none (none_behind most rest piece after parts lacks nothing);
  }

  pub piece_is_none : (piece after : List ℕ) → rest ≡ piece ++ 44 ∷ after → Lacks 44 piece
      → ((place : ℕ) → ¬ WritesUpTo most piece place) → (all : List ℕ) → ¬ SaysSomePlacesUpTo most field all
  piece_is_none piece after parts lacks none = so_far.none (first_is_none most rest piece after parts lacks
      none)

  pub rest_is_none : Lacks 44 rest → ((place : ℕ) → ¬ WritesUpTo most rest place) → (all : List ℕ)
      → ¬ SaysSomePlacesUpTo most field all
  rest_is_none lacks none = so_far.none (last_is_none most rest lacks none)

-- ---- one list

places_one : (most : ℕ) (field : List ℕ) (p q : ℕ) (ps qs : List ℕ) → SaysPlacesUpTo most field p ps
    → SaysPlacesUpTo most field q qs
    → p ∷ ps ≡ q ∷ qs
places_one most field p q [] [] a b = ap (λ n. n ∷ []) (plainly_one field p q a.0 b.0)
places_one most field p q [] (y ∷ qs) a b =
    absurd (not_lacking 44 b.0 b.1 (subst (Lacks 44) b.2 (place_lacks_comma most field p a)))
places_one most field p q (x ∷ ps) [] a b =
    absurd (not_lacking 44 a.0 a.1 (subst (Lacks 44) a.2 (place_lacks_comma most field q b)))
places_one most field p q (x ∷ ps) (y ∷ qs) a b =
    let cut = cut_once 44 a.0 a.1 b.0 b.1 (place_lacks_comma most a.0 p a.3) (place_lacks_comma most b.0 q
    b.3) (sym a.2
    ∙ b.2) in
    let first = plainly_one b.0 p q (subst (λ f. WritesPlainly f p) cut.0 a.3.0) b.3.0 in
    let later = places_one most b.1 x y ps qs (subst (λ r. SaysPlacesUpTo most r x ps) cut.1 a.4) b.4 in
    λ i. first i ∷ later i

minus_lacks_comma : Lacks 44 (45 ∷ [])
minus_lacks_comma = All-cons (λ b. b ≢ 44) 45 [] (λ same. omega (arith, same)) (All-nil (λ b. b ≢ 44))

minus_is_none : (most : ℕ) (all : List ℕ) → ¬ SaysSomePlacesUpTo most (45 ∷ []) all
minus_is_none most = last_is_none most (45 ∷ []) minus_lacks_comma (λ place says. minus_is_no_number place
    says.0)

pub partners_one : (most : ℕ) (field : List ℕ) (ps qs : List ℕ) → SaysPartnersUpTo most field ps
    → SaysPartnersUpTo most field qs → ps ≡ qs
partners_one most field [] [] a b = refl
partners_one most field [] (q ∷ qs) a b = absurd (minus_is_none most (q ∷ qs)
    (subst (λ f. SaysPlacesUpTo most f q qs) a b))
partners_one most field (p ∷ ps) [] a b = absurd (minus_is_none most (p ∷ ps)
    (subst (λ f. SaysPlacesUpTo most f p ps) b a))
partners_one most field (p ∷ ps) (q ∷ qs) a b = places_one most field p q ps qs a b

-- a field that is not `-` and no list of places says no partners
pub says_no_partners : (most : ℕ) (field : List ℕ) (partners : List ℕ) → ¬ (field ≡ (45 ∷ []))
    → ((all : List ℕ) → ¬ SaysSomePlacesUpTo most field all) → ¬ SaysPartnersUpTo most field partners
says_no_partners most field [] other none says = other says
says_no_partners most field (place ∷ more) other none says = none (place ∷ more) says
