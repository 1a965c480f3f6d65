-- How many places have a property: that there is such a number, that there is one alone, how great it can be,
-- how a list tells it, and what one place more or less makes of it.
use Rattle.rv_account.proofs.OfRules.Words.{◌≡◌, ◌⊎◌, ◌+◌, ◌<◌, ◌≤◌, ◌∷◌, ◌++◌, ◌∙◌, inl, inr, ℕ, zero, suc}
use Rattle.rv_account.proofs.OfRules.Words.{List, []}
use Rattle.rv_account.proofs.OfRules.Words.{length, Some, refl, sym, ap, subst, arith, slice_get, slice_index}
use Rattle.rv_account.proofs.OfRules.Words.{IsStrictlyIncreasing, cases_lt, get_or_from_slice_get}
use Rattle.rv_account.proofs.OfRules.Words.{none-some, same_Some}
use Rattle.rv_account.proofs.OfRules.Words.{slice_get-get_or, Side, Entry, NumberOf, OpenAt}
use Rattle.std.proofs.Common.{◌-◌}
use Rattle.std.specs.Prelude.{◌↔◌, Contains}
use Rattle.std.proofs.lemmas.List.{get_or_append_left, get_or_default, get_or_push, length_push}
use Rattle.std.proofs.lemmas.List.Elements.{Contains-append_left, Contains-get_or, Contains-push}
use Rattle.std.proofs.lemmas.List.Elements.{Contains-push_cases}
use Rattle.std.proofs.lemmas.List.Kept.{AllPairs-from_increasing}
use Rattle.rv_account.proofs.OfRules.Numbers.{first_below, same_or_not}
use Rattle.rv_account.specs.rules.Lines.{IsLine}
use Rattle.rv_account.proofs.OfRules.Places.{within}

-- ---- a property that has the same places

pub same_number : (P Q : ℕ → Type 0) (n : ℕ) → ((r : ℕ) → P r ↔ Q r) → NumberOf P n → NumberOf Q n
same_number P Q n same count = record {
  places = count.places;
  rising = count.rising;
  are = λ r. ((λ there. (same r).0 ((count.are r).0 there)), (λ holds. (count.are r).1 ((same r).1 holds)));
  is = count.is;
}

-- ---- there is one

-- a greater number after numbers that rise
pub rising_push : (places : List ℕ) (n : ℕ) → IsStrictlyIncreasing places
    → ((r : ℕ) → Contains places r → r < n) → IsStrictlyIncreasing (places ++ n ∷ [])
rising_push places n rising below k less =
    let long : length (places ++ n ∷ []) ≡ length places + 1 = length_push places n in
    let inside : k < length places = omega arith in
    let here : slice_index (places ++ n ∷ []) k ≡ slice_index places k = get_or_append_left places (n ∷ []) 0
    k inside in
    elim (cases_lt (k + 1) (length places)) [
      | inl within ↦
          let next : slice_index (places ++ n ∷ []) (k + 1) ≡ slice_index places (k + 1) = get_or_append_left
          places (n ∷ []) 0 (k + 1) within in
          let rises : slice_index places k < slice_index places (k + 1) = rising k within in
          omega arith
      | inr last ↦
          let end : length places ≡ k + 1 = omega arith in
          let next : slice_index (places ++ n ∷ []) (k + 1) ≡ n = get_or_push places n 0 (k + 1) end in
          let less : slice_index places k < n = below (slice_index places k) (Contains-get_or places k 0
          inside) in
          omega arith
    ]

-- the places with the property below a bound
abbrev Below : (ℕ → Type 0) → ℕ → ℕ → Type 0
Below P n r = (r < n) × P r

one_more : (P : ℕ → Type 0) (n m : ℕ) → P n → NumberOf (Below P n) m → NumberOf (Below P (suc n)) (suc m)
one_more P n m here count = record {
  places = count.places ++ n ∷ [];
  rising = rising_push count.places n count.rising (λ r there. ((count.are r).0 there).0);
  are = λ r. (
    (λ there. elim (Contains-push_cases count.places n r there) [
      | inl before ↦ let holds = (count.are r).0 before in let less : r < n = holds.0 in
          (omega arith, holds.1)
      | inr is ↦ (omega arith, subst P is here)
    ]),
    (λ holds. elim (cases_lt r n) [
      | inl less ↦ Contains-append_left count.places (n ∷ []) r ((count.are r).1 (less, holds.1))
      | inr last ↦
          let less : r < suc n = holds.0 in
          let is : n ≡ r = omega arith in
          subst (Contains (count.places ++ n ∷ [])) is (Contains-push count.places n)
    ]),
  );
  is = let is : m ≡ length count.places = count.is in let long : length (count.places ++ n ∷ []) ≡ length
      count.places + 1 = length_push count.places n in omega arith;
}

no_more : (P : ℕ → Type 0) (n m : ℕ) → (P n → ⊥) → NumberOf (Below P n) m → NumberOf (Below P (suc n)) m
no_more P n m not_here = same_number (Below P n) (Below P (suc n)) m (λ r. (
  (λ holds. let less : r < n = holds.0 in (omega arith, holds.1)),
  (λ holds. elim (cases_lt r n) [
    | inl less ↦ (less, holds.1)
    | inr last ↦ let less : r < suc n = holds.0 in let is : r ≡ n = omega arith in
        absurd (not_here (subst P is holds.1))
  ]),
))

none_below : (P : ℕ → Type 0) → NumberOf (Below P zero) 0
none_below P = record {
  places = [];
  rising = λ k less. absurd (omega arith);
  are = λ r. ((λ there. absurd (omega arith)), (λ holds. absurd (omega arith)));
  is = refl;
}

count_below : (P : ℕ → Type 0) → ((r : ℕ) → P r ⊎ (P r → ⊥)) → (n : ℕ) → (m : ℕ) × NumberOf (Below P n) m
count_below P decide zero = (0, none_below P)
count_below P decide (suc n) =
    let before = count_below P decide n in
    elim (decide n) [
      | inl here ↦ (suc before.0, one_more P n before.0 here before.1)
      | inr not_here ↦ (before.0, no_more P n before.0 not_here before.1)
    ]

-- the places with a property that is decided at each place and has none from n on have a number
pub find_number : (P : ℕ → Type 0) → ((r : ℕ) → P r ⊎ (P r → ⊥)) → (n : ℕ) → ((r : ℕ) → P r → r < n)
    → (m : ℕ) × NumberOf P m
find_number P decide n bound =
    let found = count_below P decide n in (
      found.0,
      same_number (Below P n) P found.0 (λ r. ((λ holds. holds.1), (λ holds. (bound r holds, holds))))
          found.1,
    )

-- ---- how great it can be

-- in numbers that rise, one that stands further on is greater
pub later_is_greater : (places : List ℕ) (i j : ℕ) → IsStrictlyIncreasing places → i < j → j < length places
    → slice_index places i < slice_index places j
later_is_greater places i j rising less inside = AllPairs-from_increasing places rising i j 0 less inside

-- numbers that rise and all stand in others that rise stand there no earlier
pub no_earlier : (few many : List ℕ) → IsStrictlyIncreasing few → IsStrictlyIncreasing many
    → ((r : ℕ) → Contains few r → Contains many r)
    → (k j : ℕ) → k < length few → j < length many → slice_index many j ≡ slice_index few k → k ≤ j
no_earlier few many few_rise many_rise there zero j inside within is = omega arith
no_earlier few many few_rise many_rise there (suc k) j inside within is =
    let also : k < length few = omega arith in
    let before = there (slice_index few k) (Contains-get_or few k 0 also) in
    let i : ℕ = before.0 in
    let i_within : i < length many = before.1 in
    let i_is : slice_index many i ≡ slice_index few k = get_or_default many i 0 (slice_index few k) i_within
    ∙ before.2 in
    let so_far : k ≤ i = no_earlier few many few_rise many_rise there k i also i_within i_is in
    let rises : slice_index few k < slice_index few (suc k) = later_is_greater few k (suc k) few_rise
    (omega arith) inside in
    elim (cases_lt i j) [
      | inl less ↦ omega arith
      | inr most ↦ elim (cases_lt j i) [
        | inl less ↦ let falls : slice_index many j < slice_index many i = later_is_greater many j i many_rise
            less i_within in absurd (omega arith)
        | inr least ↦ let one : i ≡ j = omega arith in let equal : slice_index many i ≡ slice_index many j =
            ap (slice_index many) one in absurd (omega arith)
      ]
    ]

-- where one property has another, its places are no more
pub number_at_most : (P Q : ℕ → Type 0) (m n : ℕ) → ((r : ℕ) → P r → Q r) → NumberOf P m → NumberOf Q n
    → m ≤ n
number_at_most P Q m n leads few many =
    let few_are : m ≡ length few.places = few.is in
    let many_are : n ≡ length many.places = many.is in
    elim (cases_lt 0 m) [
      | inr none ↦ omega arith
      | inl some ↦
          let k : ℕ = m - 1 in
          let inside : k < length few.places = omega arith in
          let there = λ (r : ℕ) (has : Contains few.places r). (many.are r).1 (leads r ((few.are r).0 has)) in
          let last = there (slice_index few.places k) (Contains-get_or few.places k 0 inside) in
          let j : ℕ = last.0 in
          let within : j < length many.places = last.1 in
          let is : slice_index many.places j ≡ slice_index few.places k = get_or_default many.places j 0
          (slice_index few.places k) within ∙ last.2 in
          let no_less : k ≤ j = no_earlier few.places many.places few.rising many.rising there k j inside
          within is in
          omega arith
    ]

-- there is only one
pub one_number : (P : ℕ → Type 0) (m n : ℕ) → NumberOf P m → NumberOf P n → m ≡ n
one_number P m n first second =
    let most : m ≤ n = number_at_most P P m n (λ r holds. holds) first second in
    let least : n ≤ m = number_at_most P P n m (λ r holds. holds) second first in
    omega arith

-- in numbers that rise, each is no less than its index
index_at_most : (places : List ℕ) → IsStrictlyIncreasing places → (k : ℕ) → k < length places
    → k ≤ slice_index places k
index_at_most places rising zero inside = omega arith
index_at_most places rising (suc k) inside =
    let so_far : k ≤ slice_index places k = index_at_most places rising k (omega arith) in
    let rises : slice_index places k < slice_index places (suc k) = later_is_greater places k (suc k) rising
    (omega arith) inside in
    omega arith

-- places that all stand below n are at most n
pub number_below : (P : ℕ → Type 0) (m n : ℕ) → ((r : ℕ) → P r → r < n) → NumberOf P m → m ≤ n
number_below P m n bound count =
    let is : m ≡ length count.places = count.is in
    elim (cases_lt 0 m) [
      | inr none ↦ omega arith
      | inl some ↦
          let k : ℕ = m - 1 in
          let inside : k < length count.places = omega arith in
          let least : k ≤ slice_index count.places k = index_at_most count.places count.rising k inside in
          let less : slice_index count.places k < n = bound (slice_index count.places k)
          ((count.are (slice_index count.places k)).0 (Contains-get_or count.places k 0 inside)) in
          omega arith
    ]

-- ---- from a line to a number

-- a side's line has as many places as the side has open arrivals
pub line_number : (es : List Entry) (side : Side) (places : List ℕ) → IsLine es side places
    → NumberOf (OpenAt es side) (length places)
line_number es side places line = record {
  places = places;
  rising = λ k less.
      let here : slice_get places k ≡ Some (slice_index places k) = slice_get-get_or places k 0 (omega arith)
      in
      let next : slice_get places (k + 1) ≡ Some (slice_index places (k + 1)) = slice_get-get_or places
      (k + 1) 0 less in
      line.rising k (k + 1) (slice_index places k) (slice_index places (k + 1)) (omega arith) here next;
  are = λ r. (
    (λ there. line.are there.0 r (slice_get-get_or places there.0 r there.1 ∙ ap Some there.2)),
    (λ opened. let there = line.each r opened in (
      there.0,
      within places there.0 r there.1,
      get_or_from_slice_get places there.0 r r there.1,
    )),
  );
  is = refl;
}

-- ---- one place more, and one less

-- a place after all others
pub number_push : (P Q : ℕ → Type 0) (m n : ℕ) → NumberOf P m → ((r : ℕ) → P r → r < n)
    → ((r : ℕ) → Q r ↔ (P r ⊎ (r ≡ n))) → NumberOf Q (m + 1)
number_push P Q m n count below gains = record {
  places = count.places ++ n ∷ [];
  rising = rising_push count.places n count.rising (λ r there. below r ((count.are r).0 there));
  are = λ r. (
    (λ there. elim (Contains-push_cases count.places n r there) [
      | inl before ↦ (gains r).1 (inl ((count.are r).0 before))
      | inr is ↦ (gains r).1 (inr (sym is))
    ]),
    (λ holds. elim ((gains r).0 holds) [
      | inl before ↦ Contains-append_left count.places (n ∷ []) r ((count.are r).1 before)
      | inr is ↦ subst (Contains (count.places ++ n ∷ [])) (sym is) (Contains-push count.places n)
    ]),
  );
  is = let is : m ≡ length count.places = count.is in let long : length (count.places ++ n ∷ []) ≡ length
      count.places + 1 = length_push count.places n in omega arith;
}

contains_or_not : (places : List ℕ) (r : ℕ) → Contains places r ⊎ (Contains places r → ⊥)
contains_or_not places r = elim (first_below (λ i. slice_index places i ≡ r)
    (λ i. same_or_not (slice_index places i) r) (length places)) [
      | inl found ↦ inl (found.0, found.1, sym (get_or_default places found.0 0 r found.1) ∙ found.2)
      | inr none ↦ inr (λ there. none there.0 there.1 (get_or_default places there.0 0 r there.1 ∙ there.2))
    ]

-- a bound above all of a list
abbrev above : List ℕ → ℕ
above [] = 0
above (x ∷ xs) = x + 1 + above xs

all_below : (xs : List ℕ) (i r : ℕ) → slice_get xs i ≡ Some r → r < above xs
all_below [] i r there = absurd (none-some r there)
all_below (x ∷ xs) zero r there = let is : x ≡ r = same_Some _ _ there in omega arith
all_below (x ∷ xs) (suc i) r there = let below : r < above xs = all_below xs i r there in omega arith

-- the numbers of both below n, of which the second is one less where p is below n
record Both (P Q : ℕ → Type 0) (p n : ℕ) : Type 0 where
  m : ℕ
  k : ℕ
  count : NumberOf (Below P n) m
  rest : NumberOf (Below Q n) k
  are : ((n ≤ p) × (m ≡ k)) ⊎ ((p < n) × (m ≡ k + 1))

module _ (P Q : ℕ → Type 0) (p : ℕ) (here : P p) (loses : (r : ℕ) → Q r ↔ (P r × (r ≡ p → ⊥))) where
  both_neither : (n : ℕ) → (P n → ⊥) → Both P Q p n → Both P Q p (suc n)
  both_neither n not_here before = record {
    m = before.m;
    k = before.k;
    count = no_more P n before.m not_here before.count;
    rest = no_more Q n before.k (λ holds. not_here ((loses n).0 holds).0) before.rest;
    are = elim before.are [
      | inl yet ↦ elim (same_or_not n p) [
        | inl is ↦ absurd (not_here (subst P (sym is) here))
        | inr apart ↦ elim (cases_lt n p) [
          | inl less ↦ inl (omega arith, yet.1)
          | inr most ↦ absurd
              (apart (omega arith))
        ]
      ]
      | inr past ↦ inr (omega arith, past.1)
    ];
  }

  both_at : (n : ℕ) → n ≡ p → Both P Q p n → Both P Q p (suc n)
  both_at n is before = record {
    m = suc before.m;
    k = before.k;
    count = one_more P n before.m (subst P (sym is) here) before.count;
    rest = no_more Q n before.k (λ holds. ((loses n).0 holds).1 is) before.rest;
    are = elim before.are [ inl yet ↦ inr (omega arith, omega arith) | inr past ↦ absurd (omega arith) ];
  }

  both_each : (n : ℕ) → (n ≡ p → ⊥) → P n → Both P Q p n → Both P Q p (suc n)
  both_each n apart holds before = record {
    m = suc before.m;
    k = suc before.k;
    count = one_more P n before.m holds before.count;
    rest = one_more Q n before.k ((loses n).1 (holds, apart)) before.rest;
    are = elim before.are [
      | inl yet ↦ elim (cases_lt n p) [
        | inl less ↦ inl (omega arith, omega arith)
        | inr most ↦ absurd
            (apart (omega arith))
      ]
      | inr past ↦ inr (omega arith, omega arith)
    ];
  }

  both_below : ((r : ℕ) → P r ⊎ (P r → ⊥)) → (n : ℕ) → Both P Q p n
  both_below decide zero = record {
    m = 0;
    k = 0;
    count = none_below P;
    rest = none_below Q;
    are = inl (omega arith, refl);
  }
  both_below decide (suc n) = elim (decide n) [
    | inr not_here ↦ both_neither n not_here (both_below decide n)
    | inl holds ↦ elim (same_or_not n p) [
      | inl is ↦ both_at n is (both_below decide n)
      | inr apart ↦ both_each
          n apart holds (both_below decide n)
    ]
  ]

-- a place less
pub number_drop : (P Q : ℕ → Type 0) (m p : ℕ) → NumberOf P m → P p → ((r : ℕ) → Q r ↔ (P r × (r ≡ p → ⊥)))
    → (k : ℕ) × (m ≡ k + 1) × NumberOf Q k
number_drop P Q m p count here loses =
    let n : ℕ = above count.places in
    let bound : (r : ℕ) → P r → r < n = λ r holds. let there = (count.are r).1 holds in all_below count.places
    there.0 r (slice_get-get_or count.places there.0 r there.1 ∙ ap Some there.2) in
    let decide : (r : ℕ) → P r ⊎ (P r → ⊥) = λ r. by_places r (contains_or_not count.places r) in
    let both = both_below P Q p here loses decide n in
    let all = same_number (Below P n) P both.m (λ r. ((λ holds. holds.1), (λ holds. (bound r holds, holds))))
    both.count in
    let rest = same_number (Below Q n) Q both.k
    (λ r. ((λ holds. holds.1), (λ holds. (bound r ((loses r).0 holds).0, holds)))) both.rest in
    let same : m ≡ both.m = one_number P m both.m count all in
    let less : p < n = bound p here in
    (both.k, elim both.are [ inl yet ↦ absurd (omega arith) | inr past ↦ omega arith ], rest)
  where
    by_places : (r : ℕ) → Contains count.places r ⊎ (Contains count.places r → ⊥) → P r ⊎ (P r → ⊥)
    by_places r (inl there) = inl ((count.are r).0 there)
    by_places r (inr none) = inr (λ holds. none ((count.are r).1 holds))
