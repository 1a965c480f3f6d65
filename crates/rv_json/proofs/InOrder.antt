-- The members of an object are in order, as many as it has.
use Rattle.std.proofs.Common.{◌≡◌, ◌≤◌, ◌+◌, ℕ, suc, List, [], ◌∷◌, length, Some, Ordering}
use Rattle.std.proofs.Common.{Less, Equal, Greater, String, Global, string_bytes, string_cmp, nat_cmp, is_eq}
use Rattle.std.proofs.Common.{refl, sym, ap, ◌∙◌, arith}
use Rattle.std.proofs.lemmas.Cmp.{nat_list_cmp_total}
use Rattle.std.proofs.lemmas.Map.Text.{is_eq-slice_cmp}
use Rattle.std.proofs.lemmas.Slice.Eq.{bytes_eq-Decides}
use Rattle.std.specs.Cmp.Lexicographic.{slice_cmp}
use Rattle.std.specs.List.{AllByRecursion}
use Rattle.std.specs.List.Sorted.{IsStrictlySortedBy}
use Rattle.std.specs.Map.{keys_of}
use Rattle.std.specs.Ordering.{match_ordering, ordering_reverse}
use Rattle.serde_json.specs.Data.{Data, Members, no_members, member, put}
use Rattle.serde_json.specs.Events.{members_len}
use Rattle.serde_json.specs.View.{members_view}
use Rattle.serde_json.specs.declared.value.Value.{Value}
use Rattle.rv_json.specs.declared.flat.FlatMember.{FlatMember}
use Rattle.rv_json.specs.Alone.{Form, IsAlone}
use Rattle.rv_json.specs.Flat.{plain_data, put_each, flat_members}
use Rattle.rv_json.specs.Sorted.{AreAbove, IsSorted}

AreAbove-keys : (k : String Global) (es : List (String Global × Value))
    → AllByRecursion (λ l. string_cmp k l ≡ Less) (keys_of es) → AreAbove (string_bytes k) (members_view es)
AreAbove-keys k [] h = tt
AreAbove-keys k (e ∷ es) h = (h.0, AreAbove-keys k es h.1)

-- a map's entries are in order
pub entries_sorted : (es : List (String Global × Value)) → IsStrictlySortedBy string_cmp (keys_of es)
    → IsSorted (members_view es)
unfolding IsStrictlySortedBy
entries_sorted [] h = tt
entries_sorted (e ∷ es) h = (AreAbove-keys e.0 es h.0, entries_sorted es h.1)

AreAbove-below : (k l : List ℕ) (ms : Members) → slice_cmp nat_cmp k l ≡ Less → AreAbove l ms → AreAbove k ms
AreAbove-below k l no_members lower h = tt
AreAbove-below k l (member m e ms) lower h =
    (nat_list_cmp_total.trans k l m lower h.0, AreAbove-below k l ms lower h.1)

same_name : (k l : List ℕ) → slice_cmp nat_cmp k l ≡ Equal → k ≡ l
same_name k l is = (bytes_eq-Decides k l).0 (sym (is_eq-slice_cmp k l) ∙ ap is_eq is)

-- what is above all and the new name is above what is put
AreAbove-put_at : (o : Ordering) (j k : List ℕ) (d : Data) (l : List ℕ) (e : Data) (ms : Members)
    → slice_cmp nat_cmp j k ≡ Less
    → AreAbove j (member l e ms) → AreAbove j (put k d ms)
    → AreAbove j (match_ordering o (member k d (member l e ms)) (member l d ms) (member l e (put k d ms)))
AreAbove-put_at Less j k d l e ms lower h later = (lower, h)
AreAbove-put_at Equal j k d l e ms lower h later = h
AreAbove-put_at Greater j k d l e ms lower h later = (h.0, later)

AreAbove-put : (j k : List ℕ) (d : Data) (ms : Members) → slice_cmp nat_cmp j k ≡ Less → AreAbove j ms
    → AreAbove j (put k d ms)
AreAbove-put j k d no_members lower h = (lower, tt)
AreAbove-put j k d (member l e ms) lower h =
    AreAbove-put_at (slice_cmp nat_cmp k l) j k d l e ms lower h (AreAbove-put j k d ms lower h.1)

IsSorted-put_at : (o : Ordering) (k : List ℕ) (d : Data) (l : List ℕ) (e : Data) (ms : Members)
    → slice_cmp nat_cmp k l ≡ o
    → IsSorted (member l e ms) → IsSorted (put k d ms)
    → IsSorted (match_ordering o (member k d (member l e ms)) (member l d ms) (member l e (put k d ms)))
IsSorted-put_at Less k d l e ms is h later = ((is, AreAbove-below k l ms is h.0), h)
IsSorted-put_at Equal k d l e ms is h later = h
IsSorted-put_at Greater k d l e ms is h later =
    let above : slice_cmp nat_cmp l k ≡ Less = nat_list_cmp_total.antisymm l k ∙ ap ordering_reverse is in
    (AreAbove-put l k d ms above h.0, later)

IsSorted-put : (k : List ℕ) (d : Data) (ms : Members) → IsSorted ms → IsSorted (put k d ms)
IsSorted-put k d no_members h = (tt, tt)
IsSorted-put k d (member l e ms) h = IsSorted-put_at (slice_cmp nat_cmp k l) k d l e ms refl h
    (IsSorted-put k d ms h.1)

IsSorted-put_each : (fs : List FlatMember) (ms : Members) → IsSorted ms → IsSorted (put_each fs ms)
IsSorted-put_each [] ms h = h
IsSorted-put_each (f ∷ fs) ms h =
    IsSorted-put_each fs (put f.name.now (plain_data f.value) ms) (IsSorted-put f.name.now
    (plain_data f.value) ms h)

pub flat_members_sorted : (fs : List FlatMember) → IsSorted (flat_members fs)
flat_members_sorted fs = IsSorted-put_each fs no_members tt

-- ---- how many they are

members_len-put_at : (o : Ordering) (k : List ℕ) (d : Data) (l : List ℕ) (e : Data) (ms : Members)
    → slice_cmp nat_cmp k l ≡ o → members_len (put k d ms) ≤ suc (members_len ms)
    → members_len (put k d (member l e ms)) ≤ suc (suc (members_len ms))
members_len-put_at Less k d l e ms is later = rw is (omega arith)
members_len-put_at Equal k d l e ms is later = rw is (omega arith)
members_len-put_at Greater k d l e ms is later = rw is (omega (arith, later))

members_len-put : (k : List ℕ) (d : Data) (ms : Members) → members_len (put k d ms) ≤ suc (members_len ms)
members_len-put k d no_members = omega arith
members_len-put k d (member l e ms) = members_len-put_at (slice_cmp nat_cmp k l) k d l e ms refl
    (members_len-put k d ms)

members_len-put_each : (fs : List FlatMember) (ms : Members) → members_len
    (put_each fs ms) ≤ length fs + members_len ms
members_len-put_each [] ms = omega arith
members_len-put_each (f ∷ fs) ms =
    omega (
      arith,
      members_len-put_each fs (put f.name.now (plain_data f.value) ms),
      members_len-put
          f.name.now (plain_data f.value) ms,
    )

-- no more than were put
pub members_len-flat_members : (fs : List FlatMember) → members_len (flat_members fs) ≤ length fs
members_len-flat_members fs = omega (arith, members_len-put_each fs no_members)

-- as many members as stand there, each of a value that has as many: it is alone
pub alone_among : (A : Type 0) (form : Form A) (fs : List FlatMember) (x : A)
    → form.found (flat_members fs) ≡ Some x
    → form.size x ≤ members_len (flat_members fs) → length fs ≡ form.size x → form.Fits x
    → IsAlone A form (flat_members fs) x
alone_among A form fs x found has same fits = record {
  found = found;
  whole = omega (arith, members_len-flat_members fs);
  fits = fits;
}
