-- An arrival that names the oldest open arrivals of the other side, as many as it may, keeps the pairs.
use Rattle.rv_account.proofs.OfRules.Words.{◌≡◌, ◌+◌, ◌<◌, ◌≤◌, ◌∙◌, inl, inr, ℕ, List, length, take, Some}
use Rattle.rv_account.proofs.OfRules.Words.{refl, sym, ap, subst, arith, length-take, is_some, slice_index}
use Rattle.rv_account.proofs.OfRules.Words.{IsStrictlyIncreasing, cases_lt, get_or_from_slice_get, same_Some}
use Rattle.rv_account.proofs.OfRules.Words.{Key, Call, Side, side_of, Arrive, Entry, Among, may_name}
use Rattle.rv_account.proofs.OfRules.Words.{opposite}
use Rattle.rv_account.proofs.OfRules.Words.{NumberOf, IsOpenOpposite, OpenAt}
use Rattle.std.proofs.lemmas.List.{get_or-take}
use Rattle.rv_account.specs.Account.{entry}
use Rattle.rv_account.specs.rules.Legal.{IsFreePartner, KeepsPairs}
use Rattle.rv_account.specs.rules.Waiting.{SideAt}
use Rattle.rv_account.proofs.OfRules.Counting.{later_is_greater}
use Rattle.rv_account.proofs.OfRules.Growing.{call_read, reads_within}
use Rattle.rv_account.proofs.OfRules.Places.{get-take, within}
use Rattle.rv_account.proofs.OfRules.SamePartners.{among_contains, contains_among}
use Rattle.rv_account.proofs.OfRules.Sides.{one_side}

-- ---- fronts of places that rise

pub front_rises : (places : List ℕ) (n : ℕ) → IsStrictlyIncreasing places
    → IsStrictlyIncreasing (take n places)
front_rises places n rising k less =
    let inside : k + 1 < length (take n places) = less in
    let here : slice_index (take n places) k ≡ slice_index places k = get_or-take n places k 0
    (omega (arith, length-take n places)) in
    let next : slice_index (take n places) (k + 1) ≡ slice_index places (k + 1) = get_or-take n places (k + 1)
    0 (omega (arith, length-take n places)) in
    let rises : slice_index places k < slice_index places (k + 1) =
    rising k (omega (arith, length-take n places)) in
    omega arith

abbrev pub front_among : (places : List ℕ) (n p : ℕ) → Among (take n places) p → Among places p
front_among places n p at =
    let inside : at.0 < length (take n places) = within (take n places) at.0 p at.1 in
    (at.0, sym (get-take places n at.0 (omega (arith, length-take n places))) ∙ at.1)

pub among_front : (places : List ℕ) (n p : ℕ) (at : Among places p) → at.0 < n → Among (take n places) p
among_front places n p at less = (at.0, get-take places n at.0 less ∙ at.1)

-- of places that rise, the lesser stands first
pub stands_first : (places : List ℕ) (p r : ℕ) → IsStrictlyIncreasing places → (here : Among places p)
    → (there : Among places r) → r < p → there.0 < here.0
stands_first places p r rising here there less = elim (cases_lt there.0 here.0) [
  | inl first ↦ first
  | inr most ↦
      let p_is : slice_index places here.0 ≡ p = get_or_from_slice_get places here.0 p 0 here.1 in
      let r_is : slice_index places there.0 ≡ r = get_or_from_slice_get places there.0 r 0 there.1 in
      let inside : there.0 < length places = within places there.0 r there.1 in
      elim (cases_lt here.0 there.0) [
        | inl later ↦ let rises : slice_index places here.0 < slice_index places there.0 = later_is_greater
            places here.0 there.0 rising later inside in absurd (omega arith)
        | inr least ↦ let one : here.0 ≡ there.0 = omega arith in let equal : slice_index places here.0 ≡
            slice_index places there.0 = ap (slice_index places) one in absurd (omega arith)
      ]
]

-- ---- the pairs of an arrival

module _ (es : List Entry) (moment : ℕ) (key : Key) (call : Call) (other : Side) (n : ℕ) (opposes :
    opposite (side_of call) ≡ Some other) (count : NumberOf (OpenAt es other) n) where
  abbrev named : List ℕ
  named = take (may_name call) count.places

  abbrev own : Entry
  own = entry moment (Arrive key call) named

  opened : (p : ℕ) → Among named p → OpenAt es other p
  opened p names = (count.are p).0 (among_contains count.places p (front_among count.places (may_name call) p
      names))

  stands : (r : ℕ) → OpenAt es other r → Among count.places r
  stands r there = contains_among count.places r ((count.are r).1 there)

  few : length named ≤ may_name call
  few = omega (arith, length-take (may_name call) count.places)

  free : (p : ℕ) → Among named p → IsFreePartner es own p
  free p names =
      let there = opened p names in
      record {
        call = call;
        arrives = refl;
        meets = ap is_some opposes;
        earlier = reads_within call_read refl es p there.of_side.call there.of_side.arrived;
        unmet = there.is_open.unmet;
      }

  oldest : (p r : ℕ) (side : Side) → Among named p → SideAt es side p → r < p → OpenAt es side r
      → Among named r
  oldest p r side names at less there =
      let sides : side ≡ other = one_side es side other p at (opened p names).of_side in
      let here : Among count.places p = front_among count.places (may_name call) p names in
      let stands_there : Among count.places r = stands r (subst (λ s. OpenAt es s r) sides there) in
      let first : stands_there.0 < here.0 = stands_first count.places p r count.rising here stands_there less
      in
      let inside : names.0 < length named = within named names.0 p names.1 in
      let below : names.0 < may_name call = omega (arith, few) in
      among_front count.places (may_name call) r stands_there (omega arith)

  all_named : (r : ℕ) → length named < may_name call → OpenAt es other r → Among named r
  all_named r fewer there =
      let at : Among count.places r = stands r there in
      let inside : at.0 < length count.places = within count.places at.0 r at.1 in
      among_front count.places (may_name call) r at (omega (arith, length-take (may_name call) count.places))

  opposed : (r : ℕ) (theirs : Call) → call ≡ theirs → IsOpenOpposite es theirs r → OpenAt es other r
  opposed r theirs same partner =
      let sides : partner.side ≡ other = same_Some _ _ (sym partner.opposes ∙ ap (λ c. opposite (side_of c))
      (sym same) ∙ opposes) in
      subst (λ s. OpenAt es s r) sides partner.there

  pub front_pairs : KeepsPairs es own
  front_pairs = record {
    names_free_partners = record {
      rising = front_rises count.places (may_name call) count.rising;
      few = λ theirs calls. subst (λ c. length named ≤ may_name c) (same_Some _ _ calls) few;
      free = free;
    };
    pairs_opposites = λ p theirs names calls meets. subst (λ c. IsOpenOpposite es c p) (same_Some _ _ calls)
        (record { side = other; opposes = opposes; there = opened p names });
    pairs_oldest = oldest;
    pairs_where_possible = λ r theirs calls fewer partner.
        let same : call ≡ theirs = same_Some _ _ calls in
        all_named r (subst (λ c. length named < may_name c) (sym same) fewer) (opposed r theirs same partner);
  }
