-- Pairs of a number and a place, in a set that is ordered by the number and then by the place.
use Rattle.std.proofs.Common.{rules}
use Rattle.rv_audit.proofs.Words.{◌≡◌, ◌≢◌, ◌⊎◌, ◌<◌, ◌≤◌, ◌∷◌, ◌∙◌, inl, inr, ℕ, arith, Bool, true, false}
use Rattle.rv_audit.proofs.Words.{nat_eq, List, [], IfSome, IfNone, refl, ap, subst, then_some}
use Rattle.rv_audit.proofs.Words.{nat_tests, Marks, IsTrue, IsFirstBehind, NoneBehind, Option}
use Rattle.rv_audit.proofs.Words.{NoneUntil, is_marked_under}
use Rattle.std.proofs.Common.{cond, nat_le}
use Rattle.std.specs.declared.cmp.Ordering.{Ordering}
use Rattle.std.specs.Ordering.{nat_cmp, ordering_then, is_eq, is_gt}
use Rattle.std.specs.BTreeMap.Range.{IsInRange}
use Rattle.std.specs.BTreeSet.{BTreeSet, contains, IsKeyRangeOf}
use Rattle.std.specs.declared.ops.Bound.TheVariants.{Unbounded}
use Rattle.std.specs.Cmp.{IsTotalOrder}
use Rattle.std.specs.Cmp.{eq_by_cmp_equiv}
use Rattle.rv_audit.specs.Marks.{Gains, IsBehind, IsUntil, Loses, bound_behind}

abbrev pub Pair : Type 0
Pair = ℕ × ℕ

abbrev pub pair_cmp : Pair → Pair → Ordering
pair_cmp x y = ordering_then (nat_cmp x.0 y.0) (nat_cmp x.1 y.1)

pub pair_cmp_total : IsTotalOrder pair_cmp
pair_cmp_total = search rules

abbrev pub as_marks : BTreeSet Pair → Marks
as_marks s = record { marks = s }

own_pair : (x : Pair) → is_eq (pair_cmp x x) ≡ true
own_pair x = (eq_by_cmp_equiv pair_cmp_total).refl x

other_by : (x y : Pair) (b : Bool) → is_eq (pair_cmp x y) ≡ b → (y.0 ≢ x.0) ⊎ (y.1 ≢ x.1) → b ≡ false
other_by = grind arith

pub gains : (old new : BTreeSet Pair) (n p : ℕ)
    → ((q : Pair) → contains pair_cmp new q ≡ cond (is_eq (pair_cmp (n, p) q)) true (contains pair_cmp old q))
    → Gains (as_marks old) (as_marks new) n p
gains old new n p updates = record {
  own = updates (n, p) ∙ ap (λ b. cond b true (contains pair_cmp old (n, p))) (own_pair (n, p));
  others = λ m r apart. updates (m, r) ∙ ap (λ b. cond b true (contains pair_cmp old (m, r)))
      (other_by (n, p) (m, r) (is_eq (pair_cmp (n, p) (m, r))) refl apart);
}

pub loses : (old new : BTreeSet Pair) (n p : ℕ)
    → ((q : Pair) → contains pair_cmp new q ≡ cond (is_eq (pair_cmp (n, p) q)) false (contains pair_cmp old
    q))
    → Loses (as_marks old) (as_marks new) n p
loses old new n p updates = record {
  own = updates (n, p) ∙ ap (λ b. cond b false (contains pair_cmp old (n, p))) (own_pair (n, p));
  others = λ m r apart. updates (m, r) ∙ ap (λ b. cond b false (contains pair_cmp old (m, r)))
      (other_by (n, p) (m, r) (is_eq (pair_cmp (n, p) (m, r))) refl apart);
}

-- ---- the order

-- a pair that isn't above another has a lower number, or that number and at most that place
not_above_by : (x y : Pair) (a b : Ordering) → a ≡ nat_cmp x.0 y.0 → b ≡ nat_cmp x.1 y.1
    → is_gt (ordering_then a b) ≡ false
    → (x.0 < y.0) ⊎ ((x.0 ≡ y.0) × (x.1 ≤ y.1))
not_above_by = grind arith

pub not_above : (x y : Pair) → is_gt (pair_cmp x y) ≡ false → (x.0 < y.0) ⊎ ((x.0 ≡ y.0) × (x.1 ≤ y.1))
not_above x y e = not_above_by x y (nat_cmp x.0 y.0) (nat_cmp x.1 y.1) refl refl e

pub true_or_false : (b : Bool) → (IsTrue b → ⊥) → b ≡ false
true_or_false true = λ no. absurd (no refl)
true_or_false false = λ no. refl

-- ---- after a place

abbrev RangeBehind : BTreeSet Pair → ℕ → Option ℕ → List Pair → Type 0
RangeBehind s n last r = IsKeyRangeOf pair_cmp (bound_behind n last) Unbounded s r

in_range : (n p : ℕ) (last : Option ℕ) → IsBehind last p
    → IsInRange pair_cmp (bound_behind n last) Unbounded (n, p)
in_range = grind arith

from_range : (n : ℕ) (k : Pair) (last : Option ℕ) → IsInRange pair_cmp (bound_behind n last) Unbounded k
    → (n < k.0) ⊎ ((n ≡ k.0) × IsBehind last k.1)
from_range = grind arith

pub nothing_found : (s : BTreeSet Pair) (n : ℕ) (last : Option ℕ) (r : List Pair) → RangeBehind s n last r
    → r ≡ [] → NoneBehind (as_marks s) n last
nothing_found s n last r range none p behind = range.5 none (n, p) (in_range n p last behind)

-- what is found is above nothing that stands there
module _ (s : BTreeSet Pair) (n : ℕ) (last : Option ℕ) (rest : List Pair) (k : Pair)
    (range : RangeBehind s n last (k ∷ rest)) where
  not_below : (p : ℕ) → IsBehind last p → is_marked_under (as_marks s) n p ≡ true
      → (k.0 < n) ⊎ ((k.0 ≡ n) × (k.1 ≤ p))
  not_below p behind there = not_above k (n, p) (range.2 (n, p) (in_range n p last behind) there)

  first_found : (b : Bool) → nat_eq k.0 n ≡ b → IfSome (then_some b k.1) (IsFirstBehind (as_marks s) n last)
      × IfNone (then_some b k.1) (NoneBehind (as_marks s) n last)
  first_found = grind (arith, from_range, not_below, true_or_false)

pub found : (s : BTreeSet Pair) (n : ℕ) (last : Option ℕ) (r rest : List Pair) (k : Pair)
    → RangeBehind s n last r
    → r ≡ k ∷ rest → IfSome (then_some (nat_eq k.0 n) k.1) (IsFirstBehind (as_marks s) n last)
    × IfNone (then_some (nat_eq k.0 n) k.1) (NoneBehind (as_marks s) n last)
found s n last r rest k range is =
    first_found s n last rest k (subst (RangeBehind s n last) is range) _ refl

-- ---- up to a limit

pub until_found : (s : BTreeSet Pair) (limit : ℕ) (k : Pair) (b : Bool) → IsTrue (contains pair_cmp s k)
    → ((q : Pair) → IsTrue (contains pair_cmp s q) → is_gt (pair_cmp k q) ≡ false) → nat_le k.0 limit ≡ b
    → IfSome (then_some b k.1) (IsUntil (as_marks s) limit)
    × IfNone (then_some b k.1) (NoneUntil (as_marks s) limit)
until_found s limit k true there least until = ((k.0, there, grind (arith, nat_tests)), tt)
until_found s limit k false there least above = (
  tt,
  λ n p most. true_or_false _ (λ other.
      elim (not_above k (n, p) (least (n, p) other)) [
        | inl under ↦ let less : k.0 < n = under in let over : limit < k.0 = beyond in omega arith
        | inr here ↦ let same : k.0 ≡ n = here.0 in let over : limit < k.0 = beyond in omega arith
      ]),
)
  where
    beyond : limit < k.0
    beyond = grind (arith, nat_tests)
