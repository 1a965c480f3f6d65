-- Clients in the order of their numbers, in the words of a contract and in those of an ordered map; and the
-- map that is collected from them.
use Rattle.std.proofs.Common.{◌≡◌, ◌<◌, ◌≤◌, ◌∙◌, ℕ, zero, suc, List, [], ◌∷◌, Some, length, slice_get}
use Rattle.std.proofs.Common.{refl, sym, ap, subst, arith}
use Rattle.std.specs.declared.cmp.Ordering.TheVariants.{Less}
use Rattle.std.specs.Ordering.{nat_cmp, eq_by_cmp}
use Rattle.std.specs.Cmp.{nat_cmp_is, nat_cmp_total, ranked, eq_by_cmp_equiv}
use Rattle.std.specs.List.{AllByRecursion}
use Rattle.std.specs.List.Sorted.{IsStrictlySortedBy}
use Rattle.std.specs.Map.{keys_of}
use Rattle.std.specs.BTreeMap.{BTreeMap, IsFromIterResult}
use Rattle.std.specs.FinMap.{len, same_map, nat_cmp-IsAntisymmetric}
use Rattle.std.proofs.lemmas.Map.Keys.{sorted_head, sorted_tail, IsDistinct-from_sorted}
use Rattle.std.proofs.lemmas.Map.Made.{update_all_none}
use Rattle.std.proofs.lemmas.Option.{none-some, same_Some}
use Rattle.rv_session.specs.declared.client.ClientState.{ClientState}
use Rattle.rv_session.specs.Entries.{map_of, IsOrderedTable}
use Rattle.rv_session.specs.ClientOrder.{ClientsRise}
use Rattle.rv_session.proofs.OrderedMap.{get_tree, len_tree}

abbrev Known : Type 0
Known = ℕ × ClientState

-- ---- the order

all_above : (k : ℕ) (es : List Known) → ((j : ℕ) (e : Known) → slice_get es j ≡ Some e → k < e.0)
    → AllByRecursion (λ y. nat_cmp k y ≡ Less) (keys_of es)
all_above k [] above = tt
all_above k (e ∷ es) above =
    (sym (nat_cmp_is k e.0 Less (above 0 e refl)), all_above k es (λ j other at. above (suc j) other at))

pub ordered_from_rise : (es : List Known) → ClientsRise es → IsStrictlySortedBy nat_cmp (keys_of es)
unfolding IsStrictlySortedBy
ordered_from_rise [] rise = tt
ordered_from_rise (e ∷ es) rise = (
  all_above e.0 es (λ j other at. rise 0 (suc j) e other (omega arith) refl at),
  ordered_from_rise es (λ i j one other less at there. rise (suc i) (suc j) one other (omega (arith, less)) at
      there),
)

above_all : (k : ℕ) (es : List Known) → AllByRecursion (λ y. nat_cmp k y ≡ Less) (keys_of es) → (j : ℕ)
    (other : Known) → slice_get es j ≡ Some other → k < other.0
above_all k [] all j other at = absurd (none-some other at)
above_all k (e ∷ es) all zero other at =
    subst (λ (o : Known). k < o.0) (same_Some _ _ at) (ranked k e.0 Less (sym all.0))
above_all k (e ∷ es) all (suc j) other at = above_all k es all.1 j other at

pub rise_from_ordered : (es : List Known) → IsStrictlySortedBy nat_cmp (keys_of es) → ClientsRise es
rise_from_ordered [] ordered i j one other less at there = absurd (none-some one at)
rise_from_ordered (e ∷ es) ordered i zero one other less at there = absurd (omega (arith, less))
rise_from_ordered (e ∷ es) ordered zero (suc j) one other less at there =
    subst (λ (o : Known). o.0 < other.0) (same_Some _ _ at)
    (above_all e.0 es (sorted_head nat_cmp e.0 (keys_of es) ordered) j other there)
rise_from_ordered (e ∷ es) ordered (suc i) (suc j) one other less at there =
    rise_from_ordered es (sorted_tail nat_cmp e.0 (keys_of es) ordered) i j one other (omega (arith, less)) at
    there

-- ---- the map that is collected from them

module _ (states : List Known) (rise : ClientsRise states) (made : BTreeMap ℕ ClientState)
    (is : IsFromIterResult nat_cmp states made) where
  pub collected_map : map_of made.entries ≡ map_of states
  collected_map = same_map nat_cmp_total nat_cmp-IsAntisymmetric _ _ (λ q.
      get_tree made.entries q
      ∙ is.0 q
      ∙ update_all_none (eq_by_cmp_equiv nat_cmp_total) (eq_by_cmp nat_cmp) (λ x y. refl) states q
      (IsDistinct-from_sorted nat_cmp (keys_of states) (ordered_from_rise states rise))
      ∙ sym (get_tree states q))

  pub collected_ordered : (most : ℕ) → length states ≤ most → IsOrderedTable most made.entries
  collected_ordered most few = record { ordered = is.1; room = subst (λ n. n ≤ most) (sym same) few }
    where
      same : length made.entries ≡ length states
      same = sym (len_tree made.entries is.1) ∙ ap len collected_map
          ∙ len_tree states (ordered_from_rise states rise)
