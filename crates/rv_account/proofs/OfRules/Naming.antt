-- The partners of an entry: where it names one at most, whether it names a place, and how many it names.
use Rattle.rv_account.proofs.OfRules.Words.{◌≡◌, ◌⊎◌, ◌<◌, ◌≤◌, ◌∷◌, ◌∙◌, inl, inr, ℕ, zero, suc, List, []}
use Rattle.rv_account.proofs.OfRules.Words.{length}
use Rattle.rv_account.proofs.OfRules.Words.{Option, Some, None, refl, sym, ap, subst, arith, slice_get}
use Rattle.rv_account.proofs.OfRules.Words.{IsStrictlyIncreasing, cases_lt, none-some, same_Some, Entry}
use Rattle.rv_account.proofs.OfRules.Words.{Among, Names}
use Rattle.rv_account.proofs.OfRules.Words.{NamesAt}
use Rattle.rv_account.specs.Account.{just}
use Rattle.rv_account.proofs.OfRules.Numbers.{same_or_not}

-- ---- one at most

pub named_just : (partner : Option ℕ) (p : ℕ) → Among (just partner) p → partner ≡ Some p
named_just None p (i, at) = absurd (none-some p at)
named_just (Some q) p (zero, at) = at
named_just (Some q) p (suc i, at) = absurd (none-some p at)

-- an entry whose partners are one at most names that one alone
pub names_only : (e : Entry) (partner : Option ℕ) (p : ℕ) → e.partners ≡ just partner → Names e p
    → partner ≡ Some p
names_only e partner p is names = named_just partner p (subst (λ (places : List ℕ). Among places p) is names)

-- an entry without partners names nobody
pub just_none : (e : Entry) (p : ℕ) → e.partners ≡ just None → Names e p → ⊥
just_none e p is names = none-some p (names_only e None p is names)

pub just_rises : (partner : Option ℕ) → IsStrictlyIncreasing (just partner)
just_rises None k less = absurd (omega arith)
just_rises (Some p) k less = absurd (omega arith)

-- ---- how many

-- of places that are one at most, two are one
pub one_among : (places : List ℕ) (p q : ℕ) → length places ≤ 1 → Among places p → Among places q → p ≡ q
one_among [] p q few (i, at) other = absurd (none-some p at)
one_among (x ∷ []) p q few (zero, at) (zero, also) = same_Some _ _ (sym at ∙ also)
one_among (x ∷ []) p q few (zero, at) (suc j, also) = absurd (none-some q also)
one_among (x ∷ []) p q few (suc i, at) other = absurd (none-some p at)
one_among (x ∷ y ∷ rest) p q few at other = absurd (omega arith)

-- two that differ are two
pub two_among : (places : List ℕ) (p q : ℕ) → (p ≡ q → ⊥) → Among places p → Among places q
    → 1 < length places
two_among places p q differ at other = elim (cases_lt 1 (length places)) [
  | inl several ↦ several
  | inr few ↦ absurd (differ (one_among places p q few at other))
]

-- the first of the places, or that there is none
pub first_among : (places : List ℕ) → ((p : ℕ) × Among places p) ⊎ (places ≡ [])
first_among [] = inr refl
first_among (x ∷ rest) = inl (x, (0, refl))

pub among_none : (places : List ℕ) (p : ℕ) → places ≡ [] → Among places p → ⊥
among_none places p none at = none-some p (sym (ap (λ (xs : List ℕ). slice_get xs at.0) none) ∙ at.1)

not_among : (x : ℕ) (rest : List ℕ) (p : ℕ) → (x ≡ p → ⊥) → (Among rest p → ⊥) → Among (x ∷ rest) p → ⊥
not_among x rest p apart none (zero, at) = apart (same_Some _ _ at)
not_among x rest p apart none (suc i, at) = none (i, at)

pub among_or_not : (places : List ℕ) (p : ℕ) → Among places p ⊎ (Among places p → ⊥)
among_or_not [] p = inr (λ at. none-some p at.1)
among_or_not (x ∷ rest) p = elim (same_or_not x p) [
  | inl is ↦ inl (0, ap Some is)
  | inr apart ↦ elim (among_or_not rest p) [
    | inl there ↦ inl (suc there.0, there.1)
    | inr none ↦ inr (not_among x rest p apart none)
  ]
]

-- ---- at a place

abbrev pub partners_of : Option Entry → List ℕ
partners_of None = []
partners_of (Some e) = e.partners

pub named_among : (es : List Entry) (p q : ℕ) → NamesAt es p q → Among (partners_of (slice_get es p)) q
named_among es p q h = subst (λ (o : Option Entry). Among (partners_of o) q) (sym h.there) h.names

named_by : (es : List Entry) (p q : ℕ) (o : Option Entry) → slice_get es p ≡ o → Among (partners_of o) q
    → NamesAt es p q
named_by es p q None there at = absurd (none-some q at.1)
named_by es p q (Some e) there at = record { entry = e; there = there; names = at }

pub among_named : (es : List Entry) (p q : ℕ) → Among (partners_of (slice_get es p)) q → NamesAt es p q
among_named es p q at = named_by es p q (slice_get es p) refl at
