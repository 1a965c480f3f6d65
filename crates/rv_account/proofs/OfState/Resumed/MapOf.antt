-- The map that clients are which rise: what it has, and how many.
use Rattle.std.proofs.Common.{◌≡◌, ◌<◌, ◌≤◌, ◌++◌, ◌∷◌, ◌∙◌, ℕ, zero, suc, List, [], Option, Some}
use Rattle.std.proofs.Common.{None}
use Rattle.std.proofs.Common.{Bool, true, false, cond, length, take, nat_eq, refl, sym, ap, arith}
use Rattle.std.proofs.Common.{slice_get}
use Rattle.std.proofs.Common.{length-take}
use Rattle.std.proofs.Math.Seq.{take-length, take-suc}
use Rattle.std.proofs.lemmas.Bool.{eq-eqb, eqb-true}
use Rattle.std.proofs.lemmas.Option.{get_or_from_slice_get, slice_get_within}
use Rattle.std.specs.Cmp.{nat_cmp_total}
use Rattle.std.specs.FinMap.{from_entries_push, get, get-from_entries, len, len-empty}
use Rattle.std.specs.FinMap.{nat_cmp-IsAntisymmetric}
use Rattle.std.specs.Map.{lookup}
use Rattle.std.specs.Ordering.{nat_cmp}
use Rattle.rv_session.specs.Entries.{map_of}
use Rattle.rv_session.proofs.Mapping.{get_kept, len_unknown}
use Rattle.rv_account.specs.state.State.{ClientState}
use Rattle.rv_account.proofs.OfState.Filtered.{take_get}
use Rattle.rv_account.proofs.OfState.Words.{none-some, same_Some}
use Rattle.rv_session.specs.ClientOrder.{ClientsRise}
use Rattle.rv_account.proofs.OfState.Resumed.Ordered.{there_is}
use Rattle.rv_account.proofs.OfState.Resumed.Knowing.{one_client}

abbrev Known : Type 0
Known = ℕ × ClientState

-- ---- look-ups

-- what is found stands there
by_head : (n : ℕ) (x : Known) (xs : List Known) (session : ClientState)
    → (lookup (nat_eq n) xs ≡ Some session → (i : ℕ) × (slice_get xs i ≡ Some (n, session)))
    → (b : Bool) → nat_eq n x.0 ≡ b → cond b (Some x.1) (lookup (nat_eq n) xs) ≡ Some session
    → (i : ℕ) × (slice_get (x ∷ xs) i ≡ Some (n, session))
by_head n x xs session rest true same found =
    (0, λ i. Some (sym (eqb-true n x.0 same) i, same_Some _ _ found i))
by_head n x xs session rest false apart found = let behind = rest found in (suc behind.0, behind.1)

looked_up : (xs : List Known) (n : ℕ) (session : ClientState) → lookup (nat_eq n) xs ≡ Some session
    → (i : ℕ) × (slice_get xs i ≡ Some (n, session))
looked_up [] n session found = absurd (none-some session found)
looked_up (x ∷ xs) n session found =
    by_head n x xs session (looked_up xs n session) (nat_eq n x.0) refl found

-- one that stands there is found
stands_by_head : (n : ℕ) (x : Known) (xs : List Known) → ((y : ClientState) × (lookup (nat_eq n) xs ≡ Some y))
    → (b : Bool) → (y : ClientState) × (cond b (Some x.1) (lookup (nat_eq n) xs) ≡ Some y)
stands_by_head n x xs rest true = (x.1, refl)
stands_by_head n x xs rest false = rest

some_found : (xs : List Known) (n i : ℕ) (session : ClientState) → slice_get xs i ≡ Some (n, session)
    → (y : ClientState) × (lookup (nat_eq n) xs ≡ Some y)
some_found [] n i session at = absurd (none-some (n, session) at)
some_found (x ∷ xs) n zero session at = (
  x.1,
  ap (λ b. cond b (Some x.1) (lookup (nat_eq n) xs))
      (eq-eqb n x.0 (ap (λ (k : Known). k.0) (sym (same_Some _ _ at)))),
)
some_found (x ∷ xs) n (suc i) session at =
    stands_by_head n x xs (some_found xs n i session at) (nat_eq n x.0)

module _ (clients : List Known) (rise : ClientsRise clients) where
  pub in_map : (i n : ℕ) (session : ClientState) → slice_get clients i ≡ Some (n, session)
      → get (map_of clients) n ≡ Some session
  in_map i n session at =
      let found = some_found clients n i session at in
      let there = looked_up clients n found.0 found.1 in
      let same = one_client clients rise there.0 i (n, found.0) (n, session) there.1 at refl in
      get_kept clients n ∙ found.1 ∙ ap (λ (k : Known). Some k.1) same

  pub from_map : (n : ℕ) (session : ClientState) → get (map_of clients) n ≡ Some session
      → (i : ℕ) × (slice_get clients i ≡ Some (n, session))
  from_map n session known = looked_up clients n session (sym (get_kept clients n) ∙ known)

  -- ---- how many there are

  none_yet : (n : ℕ) (x : Known) → slice_get clients n ≡ Some x → (o : Option ClientState)
      → lookup (nat_eq x.0) (take n clients) ≡ o → o ≡ None
  none_yet n x at None is = refl
  none_yet n x at (Some y) is =
      let found = looked_up (take n clients) x.0 y is in
      let there = take_get clients n found.0 (x.0, y) found.1 in
      let within = slice_get_within (take n clients) found.0 (x.0, y) found.1 in
      let up : x.0 < x.0 = rise found.0 n (x.0, y) x (omega (arith, within, short n)) there at in
      absurd (omega (arith, up))
    where
      short : (n : ℕ) → length (take n clients) ≤ n
      short n = omega (arith, length-take n clients)

  long_at : (n : ℕ) → n ≤ length clients → len (map_of (take n clients)) ≡ n
  long_at zero few = len-empty nat_cmp ClientState
  long_at (suc n) few =
      let x = there_is clients n (omega (arith, few)) in
      let none = none_yet n x.0 x.1 (lookup (nat_eq x.0.0) (take n clients)) refl in
      let get_none : get (map_of (take n clients)) x.0.0 ≡ None = get_kept (take n clients) x.0.0 ∙ none in
      ap (λ (l : List Known). len (map_of l))
      (take-suc clients n x.0 (omega (arith, few))
      ∙ ap (λ k. take n clients ++ k ∷ []) (get_or_from_slice_get clients n x.0 x.0 x.1))
      ∙ ap len (from_entries_push nat_cmp_total nat_cmp-IsAntisymmetric (take n clients) x.0.0 x.0.1
      (sym (get-from_entries nat_cmp_total (take n clients) x.0.0) ∙ get_none))
      ∙ len_unknown (map_of (take n clients)) x.0.0 x.0.1 get_none
      ∙ omega (arith, long_at n (omega (arith, few)))

  pub map_long : len (map_of clients) ≡ length clients
  map_long =
      ap (λ (l : List Known). len (map_of l)) (sym (take-length clients))
      ∙ long_at (length clients) (omega arith)
