-- Two entries of one act that may follow an account name the same partners.
use Rattle.rv_account.proofs.OfRules.Words.{◌≡◌, ◌⊎◌, ◌+◌, ◌<◌, ◌≤◌, ◌∙◌, inl, inr, ℕ, List, length, Some}
use Rattle.rv_account.proofs.OfRules.Words.{refl, sym}
use Rattle.rv_account.proofs.OfRules.Words.{ap, subst, arith, slice_index, IsStrictlyIncreasing, cases_lt}
use Rattle.rv_account.proofs.OfRules.Words.{get_or_from_slice_get, same_Some, slice_get-get_or, Call, Entry}
use Rattle.rv_account.proofs.OfRules.Words.{Account}
use Rattle.rv_account.proofs.OfRules.Words.{Among, Names, call_in, MayMeet, may_name, NumberOf}
use Rattle.rv_account.proofs.OfRules.Words.{IsOpenOpposite}
use Rattle.rv_account.proofs.OfRules.Words.{MayFollow, OpenAt}
use Rattle.std.specs.Prelude.{Contains}
use Rattle.std.proofs.lemmas.List.{ext_get_or, get_or_default}
use Rattle.std.proofs.lemmas.List.Elements.{Contains-get_or}
use Rattle.rv_account.proofs.OfRules.Counting.{no_earlier, number_at_most, number_push}
use Rattle.rv_account.proofs.OfRules.Naming.{among_or_not}
use Rattle.rv_account.proofs.OfRules.Numbers.{same_or_not}
use Rattle.rv_account.proofs.OfRules.Places.{within}

-- ---- places that rise

pub among_contains : (places : List ℕ) (p : ℕ) → Among places p → Contains places p
among_contains places p at = (at.0, within places at.0 p at.1, get_or_from_slice_get places at.0 p p at.1)

pub contains_among : (places : List ℕ) (p : ℕ) → Contains places p → Among places p
contains_among places p there = (there.0, slice_get-get_or places there.0 p there.1 ∙ ap Some there.2)

-- places that rise are as many as are among them
pub rising_number : (places : List ℕ) → IsStrictlyIncreasing places → NumberOf (Among places) (length places)
rising_number places rising = record {
  places = places;
  rising = rising;
  are = λ r. (contains_among places r, among_contains places r);
  is = refl;
}

-- two lists of places that rise and have the same places are one list
pub same_rising : (xs ys : List ℕ) → IsStrictlyIncreasing xs → IsStrictlyIncreasing ys
    → ((r : ℕ) → Among xs r → Among ys r) → ((r : ℕ) → Among ys r → Among xs r) → xs ≡ ys
same_rising xs ys first second to back =
    let fewer : length xs ≤ length ys = number_at_most (Among xs) (Among ys) (length xs) (length ys) to
    (rising_number xs first) (rising_number ys second) in
    let more : length ys ≤ length xs = number_at_most (Among ys) (Among xs) (length ys) (length xs) back
    (rising_number ys second) (rising_number xs first) in
    ext_get_or 0 xs ys (omega arith) (λ i inside. same_at i inside)
  where
    lead : (r : ℕ) → Contains xs r → Contains ys r
    lead r there = among_contains ys r (to r (contains_among xs r there))

    lead_back : (r : ℕ) → Contains ys r → Contains xs r
    lead_back r there = among_contains xs r (back r (contains_among ys r there))

    same_at : (i : ℕ) → i < length xs → slice_index xs i ≡ slice_index ys i
    same_at i inside =
        let there = lead (slice_index xs i) (Contains-get_or xs i 0 inside) in
        let j : ℕ = there.0 in
        let j_within : j < length ys = there.1 in
        let j_is : slice_index ys j ≡ slice_index xs i = get_or_default ys j 0 (slice_index xs i) j_within
        ∙ there.2 in
        let no_less : i ≤ j = no_earlier xs ys first second lead i j inside j_within j_is in
        let no_more : j ≤ i = no_earlier ys xs second first lead_back j i j_within inside (sym j_is) in
        let one : j ≡ i = omega arith in
        sym j_is ∙ ap (slice_index ys) one

-- places that rise, stand in others that rise, and lie below one of those, are fewer
pub fewer_below : (few many : List ℕ) (x : ℕ) → IsStrictlyIncreasing few → IsStrictlyIncreasing many
    → ((r : ℕ) → Among few r → Among many r) → Among many x → ((r : ℕ) → Among few r → r < x)
    → length few < length many
fewer_below few many x few_rise many_rise to here below =
    let Q : ℕ → Type 0 = λ r. Among few r ⊎ (r ≡ x) in
    let pushed : NumberOf Q (length few + 1) = number_push (Among few) Q (length few) x
    (rising_number few few_rise) below (λ r. ((λ holds. holds), (λ holds. holds))) in
    let most : length few + 1 ≤ length many = number_at_most Q (Among many) (length few + 1) (length many)
    (λ r holds. elim holds [ inl there ↦ to r there | inr is ↦ subst (Among many) (sym is) here ]) pushed
    (rising_number many many_rise) in
    omega arith

-- ---- two entries

-- whom an arrival could meet, and who stands before one that it names, is named too
oldest_too : (a : Account) (e : Entry) (call : Call) (x y : ℕ) → MayFollow a e → Names e x
    → call_in e.act ≡ Some call → MayMeet call → IsOpenOpposite a.entries call y → y < x → Names e y
oldest_too a e call x y follows names calls meets partner less =
    let later = follows.pairs.pairs_opposites x call names calls meets in
    let sides : partner.side ≡ later.side = same_Some _ _ (sym partner.opposes ∙ later.opposes) in
    follows.pairs.pairs_oldest x y later.side names later.there.of_side less
    (subst (λ s. OpenAt a.entries s y) sides partner.there)

-- of two entries of one act that may follow, the second names whom the first names
module _ (a : Account) (e f : Entry) (first : MayFollow a e) (second : MayFollow a f) (same : e.act ≡ f.act)
  where
    -- else all that the second names stand before that partner
    stands_before : (call : Call) (x y : ℕ) → call_in e.act ≡ Some call → MayMeet call → Names e x
        → (Names f x → ⊥) → Names f y → y < x
    stands_before call x y calls meets names apart has = elim (cases_lt y x) [
      | inl less ↦ less
      | inr most ↦ absurd (elim (same_or_not x y) [
        | inl is ↦ apart (subst (Names f) (sym is) has)
        | inr differ ↦ apart (oldest_too a f call y x second has (ap call_in (sym same) ∙ calls) meets
            (first.pairs.pairs_opposites x call names calls meets) (lesser x y most differ))
      ])
    ]
      where
        lesser : (x y : ℕ) → x ≤ y → (x ≡ y → ⊥) → x < y
        lesser x y most differ = elim (cases_lt x y) [
          | inl less ↦ less
          | inr least ↦ absurd
              (differ (omega arith))
        ]

    pub also_names : (x : ℕ) → Names e x → Names f x
    also_names x names = elim (among_or_not f.partners x) [
      | inl there ↦ there
      | inr apart ↦
          let free = first.pairs.names_free_partners.free x names in
          let call = free.call in
          let also : call_in f.act ≡ Some call = ap call_in (sym same) ∙ free.arrives in
          let below : (y : ℕ) → Names f y → y < x = λ y has. stands_before call x y free.arrives free.meets
          names apart has in
          let to : (y : ℕ) → Names f y → Names e y = λ y has. oldest_too a e call x y first names free.arrives
          free.meets (second.pairs.pairs_opposites y call has also free.meets) (below y has) in
          let fewer : length f.partners < length e.partners = fewer_below f.partners e.partners x
          second.pairs.names_free_partners.rising first.pairs.names_free_partners.rising to names below in
          let most : length e.partners ≤ may_name call = first.pairs.names_free_partners.few call free.arrives
          in
          second.pairs.pairs_where_possible x call also (omega arith) (first.pairs.pairs_opposites x call
          names
          free.arrives free.meets)
    ]

pub same_partners : (a : Account) (e f : Entry) → MayFollow a e → MayFollow a f → e.act ≡ f.act
    → e.partners ≡ f.partners
same_partners a e f first second same =
    same_rising e.partners f.partners first.pairs.names_free_partners.rising
    second.pairs.names_free_partners.rising (also_names a e f first second same) (also_names a f e second
    first (sym same))
