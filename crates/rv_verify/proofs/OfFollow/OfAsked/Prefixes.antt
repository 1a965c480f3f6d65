-- Places that rise, beside a line of others that rise: when they are its first, and what then is the next.
use Rattle.std.proofs.Common.{◌≡◌, ◌<◌, ◌≤◌, ◌∷◌, ◌∙◌, ℕ, zero, suc, true, false, cond, List, []}
use Rattle.std.proofs.Common.{length, get_or, Option, Some, None, refl, sym, ap, subst, arith, slice_get}
use Rattle.std.proofs.Common.{◌⊎◌, inl, inr, nat_lt}
use Rattle.std.proofs.lemmas.Bool.{cases_lt, cases_order}
use Rattle.std.proofs.lemmas.Bool.Decides.{nat_tests}
use Rattle.std.proofs.lemmas.Option.{get_or_from_slice_get, none-some, same_Some, slice_get-get_or}
use Rattle.std.specs.List.{find}
use Rattle.std.specs.List.Sorted.{IsStrictlyIncreasing}
use Rattle.rv_account.specs.Account.{Among}
use Rattle.rv_account.proofs.OfRules.Counting.{later_is_greater}
use Rattle.rv_account.proofs.OfRules.Places.{within}
use Rattle.rv_verify.specs.follow.state_rules.Walking.{AgreeBefore, LeadsLine, first_above, is_above}

-- each of them is below those after it
abbrev pub Rise : List ℕ → Type 0
Rise places = (i j p q : ℕ) → i < j → slice_get places i ≡ Some p → slice_get places j ≡ Some q → p < q

pub rise_from : (places : List ℕ) → IsStrictlyIncreasing places → Rise places
rise_from places rising i j p q less first second =
    let inside : j < length places = within places j q second in
    let one = get_or_from_slice_get places i p 0 first in
    let two = get_or_from_slice_get places j q 0 second in
    let up = later_is_greater places i j rising less inside in
    omega (arith, one, two, up)

pub rest_rises : (x : ℕ) (rest : List ℕ) → Rise (x ∷ rest) → Rise rest
rest_rises x rest rise i j p q less first second = rise (suc i) (suc j) p q (omega arith) first second

head_below : (x : ℕ) (rest : List ℕ) → Rise (x ∷ rest) → (i p : ℕ) → slice_get rest i ≡ Some p → x < p
head_below x rest rise i p at = rise 0 (suc i) x p (omega arith) refl at

-- ---- the next one

all_above : (x : ℕ) (rest : List ℕ) → ((i p : ℕ) → slice_get rest i ≡ Some p → x < p)
    → first_above (Some x) rest ≡ slice_get rest 0
all_above x [] above = refl
all_above x (y ∷ rest) above =
    let less : x < y = above 0 y refl in
    ap (λ b. cond b (Some y) (find (is_above (Some x)) rest)) (is_less x y less)
  where
    is_less : (x y : ℕ) → x < y → nat_lt x y ≡ true
    is_less x y less = grind (arith, nat_tests)

not_above : (p x : ℕ) → x ≤ p → nat_lt p x ≡ false
not_above p x most = grind (arith, nat_tests)

pub next_behind : (line : List ℕ) → Rise line → (i p : ℕ) → slice_get line i ≡ Some p
    → first_above (Some p) line ≡ slice_get line (suc i)
next_behind [] rise i p at = absurd (none-some p at)
next_behind (x ∷ rest) rise zero p at =
    let same : x ≡ p = same_Some _ _ at in
    ap (λ b. cond b (Some x) (find (is_above (Some p)) rest)) (not_above p x (omega arith))
    ∙ subst (λ q. first_above (Some q) rest ≡ slice_get rest 0) same
    (all_above x rest (head_below x rest rise))
next_behind (x ∷ rest) rise (suc i) p at =
    let below : x < p = head_below x rest rise i p at in
    ap (λ b. cond b (Some x) (find (is_above (Some p)) rest)) (not_above p x (omega arith))
    ∙ next_behind rest (rest_rises x rest rise) i p at

pub first_of_all : (line : List ℕ) → first_above None line ≡ slice_get line 0
first_of_all [] = refl
first_of_all (x ∷ rest) = refl

-- what comes after the first so many, where these are a line's
pub next_at : (places line : List ℕ) (n : ℕ) (before : Option ℕ) → Rise line → AgreeBefore places line n
    → n ≤ length places
    → (n ≡ 0 → before ≡ None) → ((k : ℕ) → n ≡ suc k → before ≡ slice_get places k)
    → first_above before line ≡ slice_get line n
next_at places line zero before rise agree inside first later =
    ap (λ (o : Option ℕ). first_above o line) (first refl) ∙ first_of_all line
next_at places line (suc k) before rise agree inside first later =
    let at = slice_get-get_or places k 0 (omega arith) in
    ap (λ (o : Option ℕ). first_above o line) (later k refl ∙ at)
    ∙ next_behind line rise k (get_or places k 0) (agree k (omega arith) ∙ at)

-- ---- the first of a line

-- what stands before one of them, in a line whose first they are, is one of them
pub front_closed : (places line : List ℕ) → Rise line → LeadsLine places line → (p r : ℕ) → Among places p
    → Among line r → r < p → Among places r
front_closed places line rise front p r at of less =
    let inside : at.0 < length places = within places at.0 p at.1 in
    let stands = front at.0 inside ∙ at.1 in
    elim (cases_lt of.0 at.0) [
      | inl before ↦ (of.0, sym (front of.0 (omega arith)) ∙ of.1)
      | inr behind ↦ elim (cases_lt at.0 of.0) [
        | inl later ↦ let up : p < r = rise at.0 of.0 p r later stands of.1 in absurd (omega arith)
        | inr same ↦
            let one : of.0 ≡ at.0 = omega arith in
            let equal : r ≡ p = same_Some _ _ (sym of.1 ∙ ap (slice_get line) one ∙ stands) in
            absurd (omega arith)
      ]
    ]

pub in_rest : (y : ℕ) (rest : List ℕ) (q : ℕ) → y < q → Among (y ∷ rest) q → Among rest q
in_rest y rest q less (zero, at) = let same : y ≡ q = same_Some _ _ at in absurd (omega arith)
in_rest y rest q less (suc i, at) = (i, at)

abbrev Closed : List ℕ → List ℕ → Type 0
Closed places line = (p r : ℕ) → Among places p → Among line r → r < p → Among places r

module _ (p x : ℕ) (places line : List ℕ) (up : Rise (p ∷ places)) (rise : Rise (x ∷ line))
    (of : (q : ℕ) → Among (p ∷ places) q → Among (x ∷ line) q) (closed : Closed (p ∷ places) (x ∷ line)) where
  rest_of : x ≡ p → (q : ℕ) → Among places q → Among line q
  rest_of same q at =
      let above : p < q = head_below p places up at.0 q at.1 in
      in_rest x line q (omega arith) (of q (suc at.0, at.1))

  rest_closed : x ≡ p → Closed places line
  rest_closed same q r at there less =
      let above : x < r = head_below x line rise there.0 r there.1 in
      in_rest p places r (omega arith) (closed q r (suc at.0, at.1) (suc there.0, there.1) less)

  at_head : x ≡ p → LeadsLine places line → LeadsLine (p ∷ places) (x ∷ line)
  at_head same rest zero inside = ap Some same
  at_head same rest (suc i) inside = rest i (omega arith)

  not_head : (x ≡ p → ⊥) → Among (x ∷ line) p → x < p
  not_head differ (zero, at) = absurd (differ (same_Some _ _ at))
  not_head differ (suc i, at) = head_below x line rise i p at

  no_head : x < p → Among (p ∷ places) x → ⊥
  no_head less (zero, at) = let same : p ≡ x = same_Some _ _ at in omega arith
  no_head less (suc i, at) = let above : p < x = head_below p places up i x at in omega arith

  by_order : (x ≡ p → LeadsLine places line) → (x ≡ p) ⊎ ((x < p) ⊎ (p < x))
      → LeadsLine (p ∷ places) (x ∷ line)
  by_order rest (inl same) = at_head same (rest same)
  by_order rest (inr differ) =
      let apart : x ≡ p → ⊥ = λ same. elim differ [ inl l ↦ omega arith | inr m ↦ omega arith ] in
      let less = not_head apart (of p (0, refl)) in
      absurd (no_head less (closed p x (0, refl) (0, refl) less))

-- those that rise, are of the line, and among which is whatever stands there before one of them, are its
-- first
pub front_from : (places line : List ℕ) → Rise places → Rise line → ((p : ℕ) → Among places p → Among line p)
    → Closed places line → LeadsLine places line
front_from [] line up rise of closed = λ i inside. absurd (omega arith)
front_from (p ∷ places) [] up rise of closed = λ i inside. absurd (none-some p (of p (0, refl)).1)
front_from (p ∷ places) (x ∷ line) up rise of closed =
    by_order p x places line up rise of closed
    (λ same. front_from places line (rest_rises p places up) (rest_rises x line rise)
    (rest_of p x places line up rise of closed same) (rest_closed p x places line up rise of closed same))
    (cases_order x p)
