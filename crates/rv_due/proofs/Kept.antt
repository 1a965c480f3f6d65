-- The set of a map's keys: what a look-up, an insertion and a removal are in it, and which key is its least.
use Rattle.std.proofs.Common.{◌≡◌, inl, inr, ◌⊎◌, ◌<◌, ◌≤◌, ℕ, Bool, true, false, cond, not, ◌&&◌, ◌||◌, List}
use Rattle.std.proofs.Common.{[], ◌∷◌, Option, Some, None, IsSome, IfNone, is_some, length, refl, sym, ap}
use Rattle.std.proofs.Common.{◌∙◌, subst, arith}
use Rattle.std.proofs.lemmas.Bool.{false≢true}
use Rattle.std.specs.BTreeMap.{BTreeMap, get, keys, IsLowerBound, IsUnchanged, Updates}
use Rattle.std.specs.Map.{keys_of, lookup}
use Rattle.std.specs.List.{list_any}
use Rattle.std.specs.declared.cmp.Ordering.{Ordering}
use Rattle.std.specs.declared.cmp.Ordering.TheVariants.{Less, Equal, Greater}
use Rattle.std.specs.Ordering.{eq_by_cmp, is_eq, is_gt}
use Rattle.std.proofs.lemmas.Cmp.{eq_by_cmp_equiv}
use Rattle.std.specs.FinSet.{contains, insert, contains-insert, contains-remove, contains-from_list, same_set}
use Rattle.std.specs.FinSet as set
use Rattle.rv_due.specs.Deadlines.{AllAbove, Deadline, IsLeastUntil, Precedes, by_moment}
use Rattle.rv_due.specs.Keeping.{set_kept}
use Rattle.rv_due.proofs.Order.{by_moment_total, by_moment-IsAntisymmetric, precedes}

-- ---- what is in it

any_found : (es : List (Deadline × Unit {0})) (q : Deadline)
    → list_any (eq_by_cmp by_moment q) (keys_of es) ≡ is_some (lookup (λ k. is_eq (by_moment q k)) es)
any_found [] q = refl
any_found (e ∷ es) q = or_first (is_eq (by_moment q e.0)) e.1 _ _ (any_found es q)
  where
    or_first : (b : Bool) (u : Unit {0}) (c : Bool) (rest : Option (Unit {0})) → c ≡ is_some rest
        → (b || c) ≡ is_some (cond b (Some u) rest)
    or_first true u c rest same = refl
    or_first false u c rest same = same

pub contains_kept : (kept : BTreeMap Deadline (Unit {0})) (q : Deadline)
    → contains (set_kept kept) q ≡ is_some (get by_moment kept q)
contains_kept kept q = contains-from_list by_moment_total (keys kept) q ∙ any_found kept.entries q

-- ---- what changes it

put_or_there : (own : Bool) (there : Option (Unit {0}))
    → is_some (cond own (Some tt) there) ≡ (own || is_some there)
put_or_there true there = refl
put_or_there false there = refl

not_taken : (own : Bool) (there : Option (Unit {0}))
    → is_some (cond own None there) ≡ (not own && is_some there)
not_taken true there = refl
not_taken false there = refl

turned : (x q : Deadline) → eq_by_cmp by_moment x q ≡ eq_by_cmp by_moment q x
turned x q = (eq_by_cmp_equiv by_moment_total).symm x q

pub set_inserted : (old new : BTreeMap Deadline (Unit {0})) (x : Deadline)
    → Updates by_moment old new x (Some tt) → set_kept new ≡ insert (set_kept old) x
set_inserted old new x updates = same_set by_moment_total by_moment-IsAntisymmetric _ _ (λ q.
    contains_kept new q
    ∙ ap is_some (updates.0 q)
    ∙ put_or_there (eq_by_cmp by_moment x q) (get by_moment old q)
    ∙ (λ i. turned x q i || sym (contains_kept old q) i)
    ∙ sym (contains-insert by_moment_total (set_kept old) x q))

pub set_removed : (old new : BTreeMap Deadline (Unit {0})) (x : Deadline) → Updates by_moment old new x None
    → set_kept new ≡ set.remove (set_kept old) x
set_removed old new x updates = same_set by_moment_total by_moment-IsAntisymmetric _ _ (λ q.
    contains_kept new q
    ∙ ap is_some (updates.0 q)
    ∙ not_taken (eq_by_cmp by_moment x q) (get by_moment old q)
    ∙ (λ i. not (turned x q i) && sym (contains_kept old q) i)
    ∙ sym (contains-remove by_moment_total (set_kept old) x q))

-- ---- which is its least

less_of : (r : Ordering) → is_gt r ≡ false → (r ≡ Equal) ⊎ (r ≡ Less)
less_of Less e = inr refl
less_of Equal e = inl refl
less_of Greater e = absurd (cc)

-- not above it, and so the same or less
same_or_less : (x q : Deadline) → is_gt (by_moment x q) ≡ false → (q ≡ x) ⊎ Precedes x q
same_or_less x q e = elim (less_of (by_moment x q) e) [
  | inl same ↦ inl (sym (by_moment-IsAntisymmetric x q same))
  | inr less ↦ inr (precedes x q less)
]

-- each member is the lower bound or greater
bound_or_greater : (kept : BTreeMap Deadline (Unit {0})) (x q : Deadline) → IsLowerBound by_moment kept x
    → contains (set_kept kept) q ≡ true → (q ≡ x) ⊎ Precedes x q
bound_or_greater kept x q least there = same_or_less x q (least q (sym (contains_kept kept q) ∙ there))

pub bound_is_least : (kept : BTreeMap Deadline (Unit {0})) (x : Deadline) (now : ℕ)
    → IsLowerBound by_moment kept x → IsSome (get by_moment kept x) → x.0 ≤ now
    → IsLeastUntil (set_kept kept) now x
bound_is_least kept x now least found due = record {
  there = contains_kept kept x ∙ found;
  due = due;
  least = λ other there apart. elim (bound_or_greater kept x other least there)
      [ inl same ↦ absurd (apart same) | inr greater ↦ greater ];
}

later : (x q : Deadline) (now : ℕ) → now < x.0 → Precedes x q → now < q.0
later x q now above (inl moments) = omega arith
later x q now above (inr both) = omega arith

pub all_above_bound : (kept : BTreeMap Deadline (Unit {0})) (x : Deadline) (now : ℕ)
    → IsLowerBound by_moment kept x → now < x.0 → AllAbove (set_kept kept) now
all_above_bound kept x now least above q there = elim (bound_or_greater kept x q least there) [
  | inl same ↦ subst (λ (e : Deadline). now < e.0) (sym same) above
  | inr greater ↦ later x q now above greater
]

none_in : (es : List (Deadline × Unit {0})) (q : Deadline) → (0 < length es → ⊥)
    → is_some (lookup (λ k. is_eq (by_moment q k)) es) ≡ false
none_in [] q empty = refl
none_in (e ∷ es) q empty = absurd (empty (omega arith))

pub none_above_empty : (kept : BTreeMap Deadline (Unit {0})) (now : ℕ) → (0 < length kept.entries → ⊥)
    → AllAbove (set_kept kept) now
none_above_empty kept now empty q there = absurd (false≢true (sym (none_in kept.entries q empty)
    ∙ sym (contains_kept kept q) ∙ there))

pub if_none : {A P : Type 0} (o : Option A) → P → IfNone o P
if_none None p = p
if_none (Some x) p = tt
