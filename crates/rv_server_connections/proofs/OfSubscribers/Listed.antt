-- The connections that stand under the numbers up to one, read off the set in its order.
use Rattle.std.proofs.Common.{◌≡◌, ◌≢◌, ◌<◌, ◌≤◌, ◌∷◌, ◌++◌, ◌∙◌, ◌⊎◌, ℕ, arith, true, List, [], inl, inr}
use Rattle.std.proofs.Common.{Contains, sym, ap, subst, length, get_or, length-append, append_assoc}
use Rattle.std.specs.List.{All, AllPairs}
use Rattle.std.specs.Map.{values_of}
use Rattle.std.specs.Ordering.{nat_cmp, eq_by_cmp, is_gt}
use Rattle.std.specs.declared.cmp.Ordering.TheVariants.{Less}
use Rattle.std.specs.List.Sorted.{IsStrictlySortedBy}
use Rattle.std.specs.BTreeSet.{IsOrdered}
use Rattle.std.proofs.lemmas.Bool.{false≢true}
use Rattle.std.proofs.lemmas.List.{map-append, get_or_append_left, get_or-map}
use Rattle.std.proofs.lemmas.List.Elements.{All-cons, All-contains, All-nil, All-push, All-weaker}
use Rattle.std.proofs.lemmas.List.Elements.{Contains-append_cases, Contains-append_left, Contains-get_or}
use Rattle.std.proofs.lemmas.Map.Entries.{length-values_of}
use Rattle.std.proofs.lemmas.Map.Keys.{IsDistinct-from_sorted, apart_from_distinct, sorted_tail}
use Rattle.std.proofs.lemmas.Map.Lookups.{CmpEqualImpliesEq, exact_pairs, exact_unsigned}
use Rattle.std.proofs.lemmas.Map.Made.{Contains-from_values_of, Contains-values_of}
use Rattle.std.proofs.lemmas.Map.Views.{All-after_first, btree_set_contains_iff}
use Rattle.rv_server_connections.specs.declared.subscribers.pairs.Pairs.{Pairs}
use Rattle.rv_server_connections.specs.subscribers.Pairs.{ListsUpTo, StandOnce, StandsUpTo, pair_count}
use Rattle.rv_server_connections.specs.subscribers.Pairs.{stands_under}
use Rattle.rv_server_connections.proofs.OfSubscribers.Ordered.{Pair, not_above, own_pair, pair_cmp}
use Rattle.rv_server_connections.proofs.OfSubscribers.Ordered.{pair_cmp_total}

-- of the set's order a front was read and listed, and this is left
pub record HasRead (p : Pairs) (most : ℕ) (listed : List ℕ) (rest : List Pair) : Type 0 where
  pub front : List Pair
  pub split : p.pairs.keys ≡ front ++ rest
  pub listed_is : listed ≡ values_of front
  pub up_to : All (λ k. k.0 ≤ most) front

pub none_read : (p : Pairs) (most : ℕ) (listed : List ℕ) (rest : List Pair) → listed ≡ []
    → rest ≡ p.pairs.keys → HasRead p most listed rest
none_read p most listed rest none all = record {
  front = [];
  split = sym all;
  listed_is = none;
  up_to = All-nil (λ (k : Pair). k.0 ≤ most);
}

pub one_read : (p : Pairs) (most : ℕ) (listed : List ℕ) (rest more : List Pair) (k : Pair)
    → HasRead p most listed rest → rest ≡ k ∷ more → k.0 ≤ most → HasRead p most (listed ++ k.1 ∷ []) more
one_read p most listed rest more k was next up_to = record {
  front = was.front ++ k ∷ [];
  split = was.split ∙ ap (λ l. was.front ++ l) next ∙ sym (append_assoc was.front (k ∷ []) more);
  listed_is = ap (λ l. l ++ k.1 ∷ []) was.listed_is
      ∙ sym (map-append (λ (q : Pair). q.1) was.front (k ∷ []));
  up_to = All-push (λ (q : Pair). q.0 ≤ most) was.front k was.up_to up_to;
}

pub room_left : (p : Pairs) (most : ℕ) (listed : List ℕ) (rest more : List Pair) (k : Pair)
    → HasRead p most listed rest → rest ≡ k ∷ more → length listed < pair_count p
room_left p most listed rest more k was next =
    omega (
      arith,
      ap length was.split,
      length-append was.front rest,
      ap length next,
      ap length was.listed_is,
      length-values_of was.front,
    )

pub few_read : (p : Pairs) (most : ℕ) (listed : List ℕ) (rest : List Pair) → HasRead p most listed rest
    → length listed ≤ pair_count p
few_read p most listed rest was =
    omega (
      arith,
      ap length was.split,
      length-append was.front rest,
      ap length was.listed_is,
      length-values_of was.front,
    )

-- ---- what is left stands above what ends the reading

sorted_rest : (front rest : List Pair) → IsStrictlySortedBy pair_cmp (front ++ rest)
    → IsStrictlySortedBy pair_cmp rest
sorted_rest [] rest sorted = sorted
sorted_rest (x ∷ front) rest sorted = sorted_rest front rest (sorted_tail pair_cmp x (front ++ rest) sorted)

less_above : (k q : Pair) → pair_cmp k q ≡ Less → (k.0 < q.0) ⊎ ((k.0 ≡ q.0) × (k.1 ≤ q.1))
less_above k q less = not_above k q (ap is_gt less)

pub all_above : (p : Pairs) (most : ℕ) (listed : List ℕ) (rest more : List Pair) (k : Pair)
    → HasRead p most listed rest → IsOrdered pair_cmp p.pairs → rest ≡ k ∷ more → most < k.0
    → All (λ q. most < q.0) rest
all_above p most listed rest more k was ordered next above =
    let sorted = subst (IsStrictlySortedBy pair_cmp) next (sorted_rest was.front rest
    (subst (IsStrictlySortedBy pair_cmp) was.split ordered)) in
    let after = All-weaker (λ q. pair_cmp k q ≡ Less) (λ (q : Pair). most < q.0)
    (λ q less. elim (less_above k q less) as (λ _. most < q.0) [
      | inl lower ↦ omega arith
      | inr same ↦ omega (arith, same.0)
    ]) more (All-after_first pair_cmp k more sorted) in
    subst (All (λ (q : Pair). most < q.0)) (sym next)
    (All-cons (λ (q : Pair). most < q.0) k more above after)

pub none_left : (most : ℕ) (rest : List Pair) → rest ≡ [] → All (λ q. most < q.0) rest
none_left most rest none = subst (All (λ (q : Pair). most < q.0)) (sym none)
    (All-nil (λ (q : Pair). most < q.0))

-- ---- who is listed

pair_exact : CmpEqualImpliesEq pair_cmp
pair_exact = exact_pairs nat_cmp nat_cmp exact_unsigned exact_unsigned

pub stands_from : (p : Pairs) (n c : ℕ) → Contains p.pairs.keys (n, c) → stands_under p n c ≡ true
stands_from p n c there = (btree_set_contains_iff pair_cmp_total pair_exact p.pairs (n, c)).1 there

pub stands_to : (p : Pairs) (n c : ℕ) → stands_under p n c ≡ true → Contains p.pairs.keys (n, c)
stands_to p n c stands = (btree_set_contains_iff pair_cmp_total pair_exact p.pairs (n, c)).0 stands

module _ (p : Pairs) (most : ℕ) (listed : List ℕ) (rest : List Pair) (was : HasRead p most listed rest) where
  in_keys : (k : Pair) → Contains was.front k → Contains p.pairs.keys k
  in_keys k there = subst (λ l. Contains l k) (sym was.split) (Contains-append_left was.front rest k there)

  listed_stands : (c : ℕ) → Contains listed c → StandsUpTo p most c
  listed_stands c there =
      let pair = Contains-from_values_of was.front c (subst (λ l. Contains l c) was.listed_is there) in
      record {
        number = pair.0;
        up_to = All-contains (λ (k : Pair). k.0 ≤ most) was.front (pair.0, c) was.up_to pair.1;
        there = stands_from p pair.0 c (in_keys (pair.0, c) pair.1);
      }

  stands_listed : All (λ k. most < k.0) rest → (c : ℕ) → StandsUpTo p most c → Contains listed c
  stands_listed above c stands =
      let in_split = subst (λ l. Contains l (stands.number, c)) was.split
      (stands_to p stands.number c stands.there) in
      subst (λ l. Contains l c) (sym was.listed_is) (Contains-values_of was.front stands.number c
      (elim (Contains-append_cases was.front rest (stands.number, c) in_split) as
      (λ _. Contains was.front (stands.number, c)) [
        | inl there ↦ there
        | inr there ↦ absurd (omega (
          arith,
          stands.up_to,
          All-contains (λ (k : Pair). most < k.0) rest (stands.number, c) above there,
        ))
      ]))

  -- two places of the front have two pairs
  two_pairs : IsOrdered pair_cmp p.pairs → (i j : ℕ) (d : Pair) → i < j → j < length was.front
      → get_or was.front i d ≢ get_or was.front j d
  two_pairs ordered i j d less within same =
      let at = λ (n : ℕ) (lt : n < length was.front). ap (λ l. get_or l n d) was.split
      ∙ get_or_append_left was.front rest d n lt in
      let apart = apart_from_distinct (eq_by_cmp pair_cmp) p.pairs.keys i j d
      (IsDistinct-from_sorted pair_cmp p.pairs.keys ordered) less
      (omega (arith, ap length was.split, length-append was.front rest)) in
      let equal : get_or p.pairs.keys i d ≡ get_or p.pairs.keys j d =
      at i (omega arith) ∙ same ∙ sym (at j within) in
      false≢true (sym apart ∙ ap (λ k. eq_by_cmp pair_cmp k (get_or p.pairs.keys j d)) equal
      ∙ own_pair (get_or p.pairs.keys j d))

  listed_once : IsOrdered pair_cmp p.pairs → StandOnce p → AllPairs (λ one other. one ≢ other) listed
  listed_once ordered once = subst (AllPairs (λ one other. one ≢ other)) (sym was.listed_is) apart
    where
      stands_at : (i : ℕ) (d : Pair) → i < length was.front
          → stands_under p (get_or was.front i d).0 (get_or was.front i d).1 ≡ true
      stands_at i d lt = stands_from p (get_or was.front i d).0 (get_or was.front i d).1
          (in_keys (get_or was.front i d) (Contains-get_or was.front i d lt))

      same_pair : (x y : Pair) → x.1 ≡ y.1 → stands_under p x.0 x.1 ≡ true → stands_under p y.0 y.1 ≡ true
          → x ≡ y
      same_pair x y same first second =
          let numbers : x.0 ≡ y.0 = once x.0 y.0 x.1 first
          (subst (λ c. stands_under p y.0 c ≡ true) (sym same) second) in
          ap (λ m. (m, x.1)) numbers ∙ ap (λ c. (y.0, c)) same

      apart : AllPairs (λ one other. one ≢ other) (values_of was.front)
      apart i j d less within same =
          let long : length (values_of was.front) ≡ length was.front = length-values_of was.front in
          let first : i < length was.front = omega arith in
          let second : j < length was.front = omega arith in
          let at = λ (n : ℕ) (lt : n < length was.front).
          get_or-map (λ (q : Pair). q.1) was.front n (0, d) d lt in
          two_pairs ordered i j (0, d) less second (same_pair (get_or was.front i (0, d))
          (get_or was.front j (0, d)) (sym (at i first) ∙ same ∙ at j second) (stands_at i (0, d) first)
          (stands_at j (0, d) second))

  pub lists : IsOrdered pair_cmp p.pairs → All (λ k. most < k.0) rest → ListsUpTo p most listed
  lists ordered above = record {
    each = λ c. (listed_stands c, stands_listed above c);
    once = listed_once ordered;
  }
