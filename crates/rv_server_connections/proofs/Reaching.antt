-- The connections that the index led to, one after another.
use Rattle.std.proofs.Common.{◌≡◌, ◌≢◌, ◌⊎◌, ◌<◌, ◌+◌, ◌∷◌, ◌++◌, ◌∙◌, ℕ, List, [], Option, arith}
use Rattle.std.proofs.Common.{sym, ap, subst, inl, inr, IsSome, Contains, length, get_or, vec_capacity}
use Rattle.std.proofs.Common.{length-append}
use Rattle.std.proofs.lemmas.Bool.{cases_eq}
use Rattle.std.proofs.lemmas.List.Elements.{Contains-append_left, Contains-get_or, Contains-push}
use Rattle.std.proofs.lemmas.List.Elements.{Contains-push_cases}
use Rattle.std.proofs.lemmas.List.Quantifiers.{all_pairs_push}
use Rattle.rv_server_connections.specs.Table.{get}
use Rattle.rv_server_connections.specs.declared.table.WireSlot.{WireSlot}
use Rattle.rv_server_connections.specs.declared.slots.Slots.{Slots}
use Rattle.rv_server_connections.specs.Connections.{IsReleased, ReleasesOpen}
use Rattle.rv_server_connections.specs.Fields.{HasIndex, IsReaching, IsReleasedAt, ReleasesOne, slots_state}
use Rattle.rv_server_connections.specs.Fields.{wire_of, wires_at}
use Rattle.rv_server_connections.proofs.Listing.{Differ, front_differs, not_again}

abbrev Table : Type 0
Table = ℕ → Option WireSlot

module _ (written : ℕ) (start : Table) (s u : Slots) (rest : List ℕ) (c : ℕ)
    (was : IsReaching written start s) (last : s.reached.items ≡ rest ++ c ∷ [])
    (one : ReleasesOne written s c u) where
  pairs : Differ (rest ++ c ∷ [])
  pairs = subst Differ last was.apart

  in_front : (k : ℕ) → Contains rest k → Contains s.reached.items k
  in_front k there = subst (λ l. Contains l k) (sym last) (Contains-append_left rest (c ∷ []) k there)

  own_there : Contains s.reached.items c
  own_there = subst (λ l. Contains l c) (sym last) (Contains-push rest c)

  apart_from : (k : ℕ) → Contains rest k → k ≢ c
  apart_from k there same = not_again rest c pairs (subst (Contains rest) same there)

  not_before : (k : ℕ) → (Contains rest k → ⊥) → k ≢ c → Contains s.reached.items k → ⊥
  not_before k out apart there = elim (Contains-push_cases rest c k (subst (λ l. Contains l k) last there)) [
    | inl before ↦ out before
    | inr same ↦ apart (sym same)
  ]

  opened : IsSome (get s.slots c)
  opened = subst (λ (o : Option WireSlot). IsSome o) (sym (was.left c own_there)) (was.opens c own_there)

  left : (k : ℕ) → Contains rest k → get u.slots k ≡ start k
  left k there = one.others k (apart_from k there) ∙ was.left k (in_front k there)

  done : (k : ℕ) → (Contains rest k → ⊥) → ReleasesOpen written (wires_at start k) (wires_at (get u.slots) k)
  done k out = elim (cases_eq k c) [
    | inl same ↦ subst (λ n. ReleasesOpen written (wires_at start n) (wires_at (get u.slots) n)) (sym same)
        (subst (λ (o : Option WireSlot). ReleasesOpen written (wire_of o) (wires_at (get u.slots) c))
        (was.left c own_there) one.own)
    | inr apart ↦ subst (λ (o : Option WireSlot). ReleasesOpen written (wires_at start k) (wire_of o))
        (sym (one.others k apart)) (was.done k (not_before k out apart))
  ]

  at_start : IsReleased (slots_state s) written c → IsReleasedAt start written c
  at_start is = record {
    wire = is.wire;
    there = ap wire_of (sym (was.left c own_there)) ∙ is.there;
    first = is.first;
    more = is.more;
    behind = is.behind;
    free = is.free;
  }

  at_now : IsReleasedAt start written c → IsReleased (slots_state s) written c
  at_now is = record {
    wire = is.wire;
    there = ap wire_of (was.left c own_there) ∙ is.there;
    first = is.first;
    more = is.more;
    behind = is.behind;
    free = is.free;
  }

  shorter : length s.reached.items ≡ length rest + 1
  shorter = ap length last ∙ length-append rest (c ∷ [])

  -- something was let go of it
  pub room_for : length s.released.items < vec_capacity s.released
  room_for = omega (arith, was.fits, shorter)

  pub reached_yes : (t : Slots) → IsReleased (slots_state s) written c → HasIndex t → t.slots ≡ u.slots
      → t.reached.items ≡ rest → t.released.items ≡ s.released.items ++ c ∷ []
      → vec_capacity t.released ≡ vec_capacity s.released → IsReaching written start t
  reached_yes t is indexed slots reached released capacity = record {
    indexed = indexed;
    apart = subst Differ (sym reached) (front_differs rest c pairs);
    opens = λ k there. was.opens k (in_front k (subst (λ l. Contains l k) reached there));
    left = λ k there. ap (λ x. get x k) slots ∙ left k (subst (λ l. Contains l k) reached there);
    done = λ k out. subst (λ x. ReleasesOpen written (wires_at start k) (wires_at (get x) k)) (sym slots)
        (done k (λ there. out (subst (λ l. Contains l k) (sym reached) there)));
    once = subst Differ (sym released)
        (all_pairs_push (λ one other. one ≢ other) s.released.items c was.once new_one);
    listed = λ k there. listed k (Contains-push_cases s.released.items c k
        (subst (λ l. Contains l k) released there));
    all_listed = λ k is_so out. subst (λ l. Contains l k) (sym released) (all_listed k is_so (λ there. out
        (subst (λ l. Contains l k) (sym reached) there)) (cases_eq k c));
    fits = omega (
      arith,
      was.fits,
      shorter,
      ap length reached,
      ap length released,
      capacity,
      length-append s.released.items (c ∷ []),
    );
  }
    where
      new_one : (k d : ℕ) → k < length s.released.items → get_or s.released.items k d ≢ c
      new_one k d within same = (was.listed c (subst (Contains s.released.items) same
          (Contains-get_or s.released.items k d within))).1 own_there

      listed : (k : ℕ) → Contains s.released.items k ⊎ (c ≡ k)
          → IsReleasedAt start written k × (Contains t.reached.items k → ⊥)
      listed k (inl before) = (
        (was.listed k before).0,
        (λ there. (was.listed k before).1 (in_front k (subst (λ l. Contains l k) reached there))),
      )
      listed k (inr same) = (
        subst (IsReleasedAt start written) same (at_start is),
        (λ there. not_again rest c pairs (subst (Contains rest) (sym same) (subst (λ l. Contains l k) reached
            there))),
      )

      all_listed : (k : ℕ) → IsReleasedAt start written k → (Contains rest k → ⊥) → (k ≡ c) ⊎ (k ≢ c)
          → Contains (s.released.items ++ c ∷ []) k
      all_listed k is_so out (inl same) =
          subst (Contains (s.released.items ++ c ∷ [])) (sym same) (Contains-push s.released.items c)
      all_listed k is_so out (inr apart) = Contains-append_left s.released.items (c ∷ []) k
          (was.all_listed k is_so (not_before k out apart))

  -- nothing was
  pub reached_no : (t : Slots) → (IsReleased (slots_state s) written c → ⊥) → HasIndex t → t.slots ≡ u.slots
      → t.reached.items ≡ rest → t.released ≡ s.released → IsReaching written start t
  reached_no t not indexed slots reached released = record {
    indexed = indexed;
    apart = subst Differ (sym reached) (front_differs rest c pairs);
    opens = λ k there. was.opens k (in_front k (subst (λ l. Contains l k) reached there));
    left = λ k there. ap (λ x. get x k) slots ∙ left k (subst (λ l. Contains l k) reached there);
    done = λ k out. subst (λ x. ReleasesOpen written (wires_at start k) (wires_at (get x) k)) (sym slots)
        (done k (λ there. out (subst (λ l. Contains l k) (sym reached) there)));
    once = subst (λ v. Differ v.items) (sym released) was.once;
    listed = λ k there. listed k (subst (λ v. Contains v.items k) released there);
    all_listed = λ k is_so out. subst (λ v. Contains v.items k) (sym released)
        (all_listed k is_so (λ there. out
        (subst (λ l. Contains l k) (sym reached) there)) (cases_eq k c));
    fits = omega (
      arith,
      was.fits,
      shorter,
      ap length reached,
      ap (λ v. length v.items) released,
      ap vec_capacity released,
    );
  }
    where
      listed : (k : ℕ) → Contains s.released.items k
          → IsReleasedAt start written k × (Contains t.reached.items k → ⊥)
      listed k before = (
        (was.listed k before).0,
        (λ there. (was.listed k before).1 (in_front k (subst (λ l. Contains l k) reached there))),
      )

      all_listed : (k : ℕ) → IsReleasedAt start written k → (Contains rest k → ⊥) → (k ≡ c) ⊎ (k ≢ c)
          → Contains s.released.items k
      all_listed k is_so out (inl same) =
          absurd (not (at_now (subst (IsReleasedAt start written) same is_so)))
      all_listed k is_so out (inr apart) = was.all_listed k is_so (not_before k out apart)
