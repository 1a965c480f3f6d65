-- The map that the entries are: what a look-up finds in it, and what it is after an insertion.
use Rattle.std.proofs.Common.{◌≡◌, ◌≢◌, inl, inr, ℕ, ◌+◌, ◌<◌, ◌≤◌, true, false, cond, if◌then◌else◌, nat_eq}
use Rattle.std.proofs.Common.{List, [], ◌∷◌, length, Option, Some, None, IsSome, is_some, refl, sym, ap, ◌∙◌}
use Rattle.std.proofs.Common.{subst, arith}
use Rattle.std.specs.Ordering.{nat_cmp, eq_by_cmp}
use Rattle.std.specs.Map.{lookup}
use Rattle.std.specs.Cmp.{unsigned_tied, nat_cmp_total}
use Rattle.std.proofs.lemmas.Bool.{cases_eq, false≢true}
use Rattle.std.proofs.lemmas.Bool.Decides.{nat_tests}
use Rattle.std.specs.FinMap.{FinMap, get, insert, find, len, len-empty, len-insert, same_map, get-insert}
use Rattle.std.specs.FinMap.{get-from_entries, nat_cmp-IsAntisymmetric}
use Rattle.rv_session.specs.Entries.{map_of, IsTable}

pub same_client : (q k : ℕ) → q ≡ k → eq_by_cmp nat_cmp q k ≡ true
same_client q k e = unsigned_tied q k ∙ grind (arith, nat_tests)

pub other_client : (q k : ℕ) → q ≢ k → eq_by_cmp nat_cmp q k ≡ false
other_client q k h = unsigned_tied q k ∙ grind (arith, nat_tests)

pub are_same : (q k : ℕ) → eq_by_cmp nat_cmp q k ≡ true → q ≡ k
are_same q k e = elim (cases_eq q k) [ inl same ↦ same | inr apart ↦ absurd (cc (other_client q k apart)) ]

-- ---- what a look-up finds

find_lookup : {V : Type 0} (es : List (ℕ × V)) (q : ℕ) → find nat_cmp q es ≡ lookup (nat_eq q) es
find_lookup [] q = refl
find_lookup (e ∷ es) q = λ i. cond (unsigned_tied q e.0 i) (Some e.1) (find_lookup es q i)

pub get_kept : {V : Type 0} (es : List (ℕ × V)) (q : ℕ) → get (map_of es) q ≡ lookup (nat_eq q) es
get_kept es q = get-from_entries nat_cmp_total es q ∙ find_lookup es q

-- ---- what an insertion leaves

-- the new entries have this at the client, and at all others what the old ones have
abbrev pub PutsValue : {V : Type 0} (old new : List (ℕ × V)) (client : ℕ) (v : V) → Type 0
PutsValue old new client v = (q : ℕ) → lookup (nat_eq q) new ≡ cond (nat_eq client q) (Some v)
    (lookup (nat_eq q) old)

pub map_put : {V : Type 0} (old new : List (ℕ × V)) (k : ℕ) (v : V) → PutsValue old new k v
    → map_of new ≡ insert (map_of old) k v
map_put old new k v puts = same_map nat_cmp_total nat_cmp-IsAntisymmetric _ _ (λ q.
    get_kept new q
    ∙ puts q
    ∙ (λ i. cond (turned k q i) (Some v) (sym (get_kept old q) i))
    ∙ sym (get-insert nat_cmp_total (map_of old) k v q))
  where
    turned : (k q : ℕ) → nat_eq k q ≡ eq_by_cmp nat_cmp q k
    turned k q = grind (arith, nat_tests) ∙ sym (unsigned_tied q k)

-- ---- the entries stay a table

known_stays : {V : Type 0} (o : Option V) (n : ℕ) → IsSome o → cond (is_some o) n (n + 1) ≡ n
known_stays None n known = absurd (false≢true known)
known_stays (Some v) n known = refl

pub len_known : {V : Type 0} (m : FinMap nat_cmp V) (k : ℕ) (v : V) → IsSome (get m k)
    → len (insert m k v) ≡ len m
len_known m k v known = len-insert nat_cmp_total m k v ∙ known_stays (get m k) (len m) known

pub len_unknown : {V : Type 0} (m : FinMap nat_cmp V) (k : ℕ) (v : V) → get m k ≡ None
    → len (insert m k v) ≡ len m + 1
len_unknown m k v none = len-insert nat_cmp_total m k v ∙ ap (λ o. cond (is_some o) (len m)
    (len m + 1)) none

-- as many more as the map has, whatever stood at the client
as_many : {V : Type 0} (before : Option V) (n : ℕ)
    → cond (is_some before) n (n + 1) ≡ n + (if is_some before then 0 else 1)
as_many None n = refl
as_many (Some v) n = omega arith

still_room : {V : Type 0} (most : ℕ) (before : Option V) (n count : ℕ) → n ≤ most → (before ≡ None → n < most)
    → count ≡ n + (if is_some before then 0 else 1) → count ≤ most
still_room most None n count within room is = let below : n < most = room refl in omega (arith, below, is)
still_room most (Some v) n count within room is = omega (arith, within, is)

pub put_table : {V : Type 0} (most : ℕ) (old new : List (ℕ × V)) (k : ℕ) (v : V) (before : Option V)
    → IsTable most old
    → PutsValue old new k v → before ≡ lookup (nat_eq k) old
    → length new ≡ length old + (if is_some before then 0 else 1)
    → (get (map_of old) k ≡ None → len (map_of old) < most) → IsTable most new
put_table most old new k v before is puts was longer room =
    let there : get (map_of old) k ≡ before = get_kept old k ∙ sym was in
    record {
      distinct = ap len (map_put old new k v puts) ∙ len-insert nat_cmp_total (map_of old) k v
          ∙ (λ i. cond (is_some (there i)) (is.distinct i) (is.distinct i + 1))
          ∙ as_many before (length old) ∙ sym longer;
      room = still_room most before (length old) (length new) is.room
          (λ none. subst (λ n. n < most) is.distinct (room (there ∙ none))) longer;
    }

-- a value that was replaced
pub written_table : {V : Type 0} (most : ℕ) (old new : List (ℕ × V)) (k : ℕ) (v : V) → IsTable most old
    → PutsValue old new k v → length new ≡ length old → IsSome (get (map_of old) k) → IsTable most new
written_table most old new k v is puts same known = record {
  distinct = ap len (map_put old new k v puts) ∙ len_known (map_of old) k v known ∙ is.distinct ∙ sym same;
  room = subst (λ n. n ≤ most) (sym same) is.room;
}

pub empty_table : (V : Type 0) (most : ℕ) → IsTable {V = V} most []
empty_table V most = record { distinct = len-empty nat_cmp V; room = omega arith }
