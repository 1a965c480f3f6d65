-- Pairs of a number and a connection, in a set that is ordered by the number and then by the connection.
use Rattle.std.proofs.Common.{◌≡◌, ◌≢◌, ◌⊎◌, ◌<◌, ◌≤◌, ◌∷◌, ◌∙◌, ℕ, arith, Bool, true, false, rules}
use Rattle.std.proofs.Common.{nat_eq, List, [], IfSome, IfNone, IsTrue, refl, ap, subst, cond}
use Rattle.std.specs.Bool.{then_some}
use Rattle.std.specs.declared.cmp.Ordering.{Ordering}
use Rattle.std.specs.Ordering.{nat_cmp, ordering_then, is_eq, is_gt}
use Rattle.std.specs.BTreeMap.Range.{IsInRange}
use Rattle.std.specs.BTreeSet.{BTreeSet, contains, IsKeyRangeOf}
use Rattle.std.specs.declared.ops.Bound.TheVariants.{Included, Unbounded}
use Rattle.std.specs.Cmp.{IsTotalOrder, eq_by_cmp_equiv}
use Rattle.rv_server_connections.specs.declared.subscribers.pairs.Pairs.{Pairs}
use Rattle.rv_server_connections.specs.subscribers.Pairs.{ChangesPairs, IsLeastPair, IsLowestUnder, NoneUnder}
use Rattle.rv_server_connections.specs.subscribers.Pairs.{stands_under}

abbrev pub Pair : Type 0
Pair = ℕ × ℕ

abbrev pub pair_cmp : Pair → Pair → Ordering
pair_cmp x y = ordering_then (nat_cmp x.0 y.0) (nat_cmp x.1 y.1)

pub pair_cmp_total : IsTotalOrder pair_cmp
pair_cmp_total = search rules

abbrev pub as_pairs : BTreeSet Pair → Pairs
as_pairs s = record { pairs = s }

pub own_pair : (x : Pair) → is_eq (pair_cmp x x) ≡ true
own_pair x = (eq_by_cmp_equiv pair_cmp_total).refl x

other_by : (x y : Pair) (b : Bool) → is_eq (pair_cmp x y) ≡ b → (y.0 ≢ x.0) ⊎ (y.1 ≢ x.1) → b ≡ false
other_by = grind arith

pub changes : (old new : BTreeSet Pair) (n c : ℕ) (stands : Bool)
    → ((q : Pair) → contains pair_cmp new q ≡ cond (is_eq (pair_cmp (n, c) q)) stands (contains pair_cmp old
    q))
    → ChangesPairs (as_pairs old) (as_pairs new) n c stands
changes old new n c stands updates = record {
  own = updates (n, c) ∙ ap (λ b. cond b stands (contains pair_cmp old (n, c))) (own_pair (n, c));
  others = λ m r apart. updates (m, r) ∙ ap (λ b. cond b stands (contains pair_cmp old (m, r)))
      (other_by (n, c) (m, r) (is_eq (pair_cmp (n, c) (m, r))) refl apart);
}

-- ---- the order

-- a pair that isn't above another has a lower number, or that number and at most that connection
not_above_by : (x y : Pair) (a b : Ordering) → a ≡ nat_cmp x.0 y.0 → b ≡ nat_cmp x.1 y.1
    → is_gt (ordering_then a b) ≡ false
    → (x.0 < y.0) ⊎ ((x.0 ≡ y.0) × (x.1 ≤ y.1))
not_above_by = grind arith

pub not_above : (x y : Pair) → is_gt (pair_cmp x y) ≡ false → (x.0 < y.0) ⊎ ((x.0 ≡ y.0) × (x.1 ≤ y.1))
not_above x y e = not_above_by x y (nat_cmp x.0 y.0) (nat_cmp x.1 y.1) refl refl e

pub true_or_false : (b : Bool) → (IsTrue b → ⊥) → b ≡ false
true_or_false true = λ no. absurd (no refl)
true_or_false false = λ no. refl

-- ---- under a number

abbrev RangeFrom : BTreeSet Pair → ℕ → List Pair → Type 0
RangeFrom s n r = IsKeyRangeOf pair_cmp (Included (n, 0)) Unbounded s r

in_range : (n c : ℕ) → IsInRange pair_cmp (Included (n, 0)) Unbounded (n, c)
in_range = grind arith

from_range : (n : ℕ) (k : Pair) → IsInRange pair_cmp (Included (n, 0)) Unbounded k → n ≤ k.0
from_range = grind arith

pub nothing_found : (s : BTreeSet Pair) (n : ℕ) (r : List Pair) → RangeFrom s n r → r ≡ []
    → NoneUnder (as_pairs s) n
nothing_found s n r range none c = range.5 none (n, c) (in_range n c)

-- what is found is above nothing that stands there
module _ (s : BTreeSet Pair) (n : ℕ) (rest : List Pair) (k : Pair) (range : RangeFrom s n (k ∷ rest)) where
  not_below : (c : ℕ) → stands_under (as_pairs s) n c ≡ true → (k.0 < n) ⊎ ((k.0 ≡ n) × (k.1 ≤ c))
  not_below c there = not_above k (n, c) (range.2 (n, c) (in_range n c) there)

  first_found : (b : Bool) → nat_eq k.0 n ≡ b → IfSome (then_some b k.1) (IsLowestUnder (as_pairs s) n)
      × IfNone (then_some b k.1) (NoneUnder (as_pairs s) n)
  first_found = grind (arith, from_range, not_below, true_or_false)

pub found : (s : BTreeSet Pair) (n : ℕ) (r rest : List Pair) (k : Pair) → RangeFrom s n r → r ≡ k ∷ rest
    → IfSome (then_some (nat_eq k.0 n) k.1) (IsLowestUnder (as_pairs s) n)
    × IfNone (then_some (nat_eq k.0 n) k.1) (NoneUnder (as_pairs s) n)
found s n r rest k range is = first_found s n rest k (subst (RangeFrom s n) is range) _ refl

pub least_found : (s : BTreeSet Pair) (k : Pair) → IsTrue (contains pair_cmp s k)
    → ((q : Pair) → IsTrue (contains pair_cmp s q) → is_gt (pair_cmp k q) ≡ false)
    → IsLeastPair (as_pairs s) k
least_found s k there least = record {
  there = there;
  lowest = λ n c other. not_above k (n, c)
      (least (n, c) other);
}
