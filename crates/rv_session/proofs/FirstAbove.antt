-- The first entry of a range above a number is the next client.
use Rattle.std.proofs.Common.{◌≡◌, ℕ, Bool, true, false, cond, List, [], ◌∷◌, Option, Some, None, option_map}
use Rattle.std.proofs.Common.{refl, sym, ap, ◌∙◌, slice_get}
use Rattle.std.specs.Prelude.{filter, find}
use Rattle.std.specs.Ordering.{nat_cmp}
use Rattle.std.specs.Map.{keys_of}
use Rattle.std.specs.Map.Iter.{TakesFirst}
use Rattle.std.specs.BTreeMap.Range.{range_contains, entries_between}
use Rattle.std.specs.declared.ops.Bound.{Bound}
use Rattle.std.specs.declared.ops.Bound.TheVariants.{Unbounded}
use Rattle.std.specs.List.Sorted.{IsStrictlySortedBy}
use Rattle.rv_session.specs.declared.client.ClientState.{ClientState}
use Rattle.rv_session.specs.Entries.{map_of}
use Rattle.rv_session.specs.ClientOrder.{is_above, next_client}
use Rattle.rv_session.proofs.OrderedMap.{own_entries}

-- the first that passes a test is the first of those that do
by_test : {E : Type 0} (p : E → Bool) (x : E) (xs : List E) (b : Bool)
    → find p xs ≡ slice_get (filter p xs) 0
    → cond b (Some x) (find p xs) ≡ slice_get (cond b (x ∷ filter p xs) (filter p xs)) 0
by_test p x xs true rest = refl
by_test p x xs false rest = rest

first_of : {E : Type 0} (p : E → Bool) (xs : List E) → find p xs ≡ slice_get (filter p xs) 0
first_of p [] = refl
first_of p (x ∷ xs) = by_test p x xs (p x) (first_of p xs)

-- what an iterator gives is the first of what it had left
gives_first : {A E : Type 0} (shows : A → E) (left then : List E) (r : Option A)
    → TakesFirst shows left r then → option_map shows r ≡ slice_get left 0
gives_first shows left then None takes = ap (λ l. slice_get l 0) (sym takes.0)
gives_first shows left then (Some x) takes = ap (λ l. slice_get l 0) (sym takes)

pub next_found : {A : Type 0} (es left then : List (ℕ × ClientState)) (after : Option ℕ) (start : Bound ℕ)
    (shows : A → ℕ × ClientState) (r : Option A) → IsStrictlySortedBy nat_cmp (keys_of es)
    → ((client : ℕ) → range_contains nat_cmp start Unbounded client ≡ is_above after client)
    → left ≡ entries_between nat_cmp start Unbounded es → TakesFirst shows left r then
    → option_map shows r ≡ next_client (map_of es) after
next_found es left then after start shows r ordered contains is takes =
    gives_first shows left then r takes
    ∙ ap (λ l. slice_get l 0) is
    ∙ sym (first_of (λ e. range_contains nat_cmp start Unbounded e.0) es)
    ∙ (λ i. find (λ e. contains e.0 i) es)
    ∙ ap (find (λ e. is_above after e.0)) (sym (own_entries es ordered))
