-- The map that entries are which stand in the order of their keys: what a look-up finds in it, what it is
-- after an insertion, and that its own entries are these.
use Rattle.std.proofs.Common.{◌≡◌, ℕ, ◌+◌, ◌<◌, ◌≤◌, Bool, true, false, ◌&&◌, T, cond, List, [], ◌∷◌}
use Rattle.std.proofs.Common.{length, Some, None, refl, sym, ap, ◌∙◌, subst, arith}
use Rattle.std.specs.List.{AllByRecursion}
use Rattle.std.specs.declared.cmp.Ordering.TheVariants.{Less}
use Rattle.std.specs.Ordering.{nat_cmp, is_lt}
use Rattle.std.specs.Cmp.{nat_cmp_total, eq_by_cmp_equiv}
use Rattle.std.specs.Map.{lookup, keys_of}
use Rattle.std.specs.BTreeMap.{is_at}
use Rattle.std.specs.List.Sorted.{IsStrictlySortedBy}
use Rattle.std.specs.FinMap.{FinMap, get, get-entries, insert, len, find, entries}
use Rattle.std.specs.FinMap.{from_sorted, is_sorted, same_map, get-insert}
use Rattle.std.specs.FinMap.{get-from_entries, get-from_sorted, entries-from_sorted, len-entries}
use Rattle.std.specs.FinMap.{nat_cmp-IsAntisymmetric}
use Rattle.std.specs.FinMap.Entries.{below_all}
use Rattle.std.proofs.lemmas.Map.Keys.{sorted_head, sorted_tail}
use Rattle.rv_session.specs.Entries.{map_of, IsOrderedTable}
use Rattle.rv_session.proofs.Mapping.{len_unknown}

-- ---- what a look-up finds

found : {V : Type 0} (es : List (ℕ × V)) (q : ℕ) → find nat_cmp q es ≡ lookup (is_at (nat_cmp q)) es
found [] q = refl
found (e ∷ es) q = ap (cond (is_at (nat_cmp q) e.0) (Some e.1)) (found es q)

pub get_tree : {V : Type 0} (es : List (ℕ × V)) (q : ℕ)
    → get (map_of es) q ≡ lookup (is_at (nat_cmp q)) es
get_tree es q = get-from_entries nat_cmp_total es q ∙ found es q

-- ---- what an insertion leaves

-- the new entries have this at the key, and at all others what the old ones have
abbrev pub PutsAt : {V : Type 0} (old new : List (ℕ × V)) (k : ℕ) (v : V) → Type 0
PutsAt old new k v = (q : ℕ) → lookup (is_at (nat_cmp q)) new ≡ cond (is_at (nat_cmp k) q) (Some v)
    (lookup (is_at (nat_cmp q)) old)

pub tree_put : {V : Type 0} (old new : List (ℕ × V)) (k : ℕ) (v : V) → PutsAt old new k v
    → map_of new ≡ insert (map_of old) k v
tree_put old new k v puts = same_map nat_cmp_total nat_cmp-IsAntisymmetric _ _ (λ q.
    get_tree new q
    ∙ puts q
    ∙ (λ i. cond ((eq_by_cmp_equiv nat_cmp_total).symm k q i) (Some v) (sym (get_tree old q) i))
    ∙ sym (get-insert nat_cmp_total (map_of old) k v q))

-- ---- the entries are the map's own

both : (a b : Bool) → T a → T b → T (a && b)
both true b there then = then
both false b there then = there

below : {V : Type 0} (k : ℕ) (es : List (ℕ × V)) → AllByRecursion (λ y. nat_cmp k y ≡ Less) (keys_of es)
    → T (below_all nat_cmp k es)
below k [] all = tt
below k (e ∷ es) all = both _ _ (subst (λ r. T (is_lt r)) (sym all.0) tt) (below k es all.1)

sorted : {V : Type 0} (es : List (ℕ × V)) → IsStrictlySortedBy nat_cmp (keys_of es) → T (is_sorted nat_cmp es)
sorted [] ordered = tt
sorted (e ∷ es) ordered =
    both _ _ (below e.0 es (sorted_head nat_cmp e.0 (keys_of es) ordered))
    (sorted es (sorted_tail nat_cmp e.0 (keys_of es) ordered))

pub own_entries : {V : Type 0} (es : List (ℕ × V)) → IsStrictlySortedBy nat_cmp (keys_of es)
    → entries (map_of es) ≡ es
own_entries es ordered =
    ap entries (same_map nat_cmp_total nat_cmp-IsAntisymmetric (map_of es) (from_sorted es)
    (λ q. get-from_entries nat_cmp_total es q ∙ sym (get-from_sorted nat_cmp es q (sorted es ordered))))
    ∙ entries-from_sorted nat_cmp es (sorted es ordered)

-- and a map is that of its own entries
pub own_map : {V : Type 0} (m : FinMap nat_cmp V) → map_of (entries m) ≡ m
own_map m = same_map nat_cmp_total nat_cmp-IsAntisymmetric (map_of (entries m)) m
    (λ q. get-from_entries nat_cmp_total (entries m) q ∙ sym (get-entries m q))

pub len_tree : {V : Type 0} (es : List (ℕ × V)) → IsStrictlySortedBy nat_cmp (keys_of es)
    → len (map_of es) ≡ length es
len_tree es ordered = len-entries (map_of es) ∙ ap length (own_entries es ordered)

-- ---- they stay in order

-- with a new key
pub put_ordered : {V : Type 0} (most : ℕ) (old new : List (ℕ × V)) (k : ℕ) (v : V)
    → IsStrictlySortedBy nat_cmp (keys_of new) → PutsAt old new k v → get (map_of old) k ≡ None
    → len (map_of old) < most → IsOrderedTable most new
put_ordered most old new k v ordered puts none few = record {
  ordered = ordered;
  room = omega (arith, few, longer);
}
  where
    longer : length new ≡ len (map_of old) + 1
    longer = sym (len_tree new ordered) ∙ ap len (tree_put old new k v puts)
        ∙ len_unknown (map_of old) k v none

-- with another value
pub written_ordered : {V : Type 0} (most : ℕ) (old new : List (ℕ × V)) → IsOrderedTable most old
    → IsStrictlySortedBy nat_cmp (keys_of new) → length new ≡ length old → IsOrderedTable most new
written_ordered most old new is ordered same = record {
  ordered = ordered;
  room = subst (λ n. n ≤ most) (sym same) is.room;
}
