-- An object in which each of these members is found, and which has no more of them, is the object with these
-- members.
use Rattle.std.proofs.Common.{◌≡◌, ℕ, suc, ◌+◌, ◌≤◌, List, [], ◌∷◌, length, Bool, true, ◌&&◌, not, Some, None}
use Rattle.std.proofs.Common.{Ordering, Less, Equal, Greater}
use Rattle.std.proofs.Common.{nat_cmp, is_eq, bytes_eq, refl, sym, ap, ◌∙◌, subst, inl, inr, arith}
use Rattle.std.proofs.lemmas.Bool.{and_parts, not-true, both_ways}
use Rattle.std.proofs.lemmas.Cmp.{nat_list_cmp_total}
use Rattle.std.proofs.lemmas.Map.Text.{is_eq-slice_cmp}
use Rattle.std.proofs.lemmas.Slice.Eq.{bytes_eq-Decides}
use Rattle.std.specs.Cmp.Lexicographic.{slice_cmp}
use Rattle.std.specs.Ordering.{match_ordering}
use Rattle.std.specs.Prelude.{◌⊎◌}
use Rattle.serde_json.specs.Data.{Data, Members, no_members, member, put}
use Rattle.serde_json.specs.Events.{members_len}
use Rattle.serde_json.specs.Find.{get_member}
use Rattle.rv_json.specs.Sorted.{AreAbove, IsSorted}
use Rattle.serde_json.proofs.Views.{get_member-put, get_member-put_other}
use Rattle.rv_text.specs.Members.{Field, with_fields}

-- each of these members is found
abbrev pub HoldsFields : List Field → Members → Type 0
HoldsFields [] ms = Unit {0}
HoldsFields (f ∷ fs) ms = (get_member f.0 ms ≡ Some f.1) × HoldsFields fs ms

-- ---- members in order

AreAbove-below : (k l : List ℕ) (ms : Members) → slice_cmp nat_cmp k l ≡ Less → AreAbove l ms → AreAbove k ms
AreAbove-below k l no_members lower h = tt
AreAbove-below k l (member m e ms) lower h = (
  nat_list_cmp_total.trans k l m lower h.0,
  AreAbove-below k l ms
      lower h.1,
)

get_member-above : (k : List ℕ) (ms : Members) → AreAbove k ms → get_member k ms ≡ None
get_member-above k no_members h = refl
get_member-above k (member l e ms) h = rw h.0 (get_member-above k ms h.1)

put-above : (k : List ℕ) (d : Data) (ms : Members) → AreAbove k ms → put k d ms ≡ member k d ms
put-above k d no_members h = refl
put-above k d (member l e ms) h = rw h.0 refl

-- ---- some of the members

-- part is ms without some of its members
abbrev IsPart : Members → Members → Type 0
IsPart part no_members = part ≡ no_members
IsPart part (member l e ms) = IsPart part ms ⊎ ((rest : Members) × (part ≡ member l e rest) × IsPart rest ms)

AreAbove-part : (k : List ℕ) (part ms : Members) → IsPart part ms → AreAbove k ms → AreAbove k part
AreAbove-part k part no_members p h = subst (AreAbove k) (sym p) tt
AreAbove-part k part (member l e ms) (inl p) h = AreAbove-part k part ms p h.1
AreAbove-part k part (member l e ms) (inr p) h = subst (AreAbove k) (sym p.1) (
  h.0,
  AreAbove-part k p.0 ms p.2
      h.1,
)

same_name : (k l : List ℕ) → slice_cmp nat_cmp k l ≡ Equal → k ≡ l
same_name k l is = (bytes_eq-Decides k l).0 (sym (is_eq-slice_cmp k l) ∙ ap is_eq is)

abbrev Putting : List ℕ → Data → Members → Members → Type 0
Putting k d ms part = IsPart part ms → get_member k ms ≡ Some d → get_member k part ≡ None
    → IsPart (put k d part) ms

IsPart-put_at : (o : Ordering) (k : List ℕ) (d : Data) (l : List ℕ) (e : Data) (ms part : Members)
    → slice_cmp nat_cmp k l ≡ o → AreAbove l ms → ((rest : Members) → Putting k d ms rest)
    → Putting k d (member l e ms) part
IsPart-put_at Less k d l e ms part is above later p found fresh =
    let found_later : get_member k ms ≡ Some d = sym (ap (λ o. match_ordering o (get_member k ms) (Some e)
    (get_member k ms)) is) ∙ found in
    let absent = get_member-above k ms (AreAbove-below k l ms is above) in
    absurd (cc)
IsPart-put_at Equal k d l e ms part is above later (inl p) found fresh =
    let same = same_name k l is in
    let value : Some e ≡ Some d = sym (ap (λ o. match_ordering o (get_member k ms) (Some e) (get_member k ms))
    is) ∙ found in
    let placed = put-above k d part (AreAbove-part k part ms p (subst (λ n. AreAbove n ms) (sym same) above))
    in
    inr (part, cc, p)
IsPart-put_at Equal k d l e ms part is above later (inr p) found fresh =
    let here : get_member k (member l e p.0) ≡ Some e = ap (λ o. match_ordering o (get_member k p.0) (Some e)
    (get_member k p.0)) is in
    let nowhere : get_member k (member l e p.0) ≡ None = sym (ap (get_member k) p.1) ∙ fresh in
    absurd (cc)
IsPart-put_at Greater k d l e ms part is above later (inl p) found fresh =
    let found_later : get_member k ms ≡ Some d = sym (ap (λ o. match_ordering o (get_member k ms) (Some e)
    (get_member k ms)) is) ∙ found in
    inl (later part p found_later fresh)
IsPart-put_at Greater k d l e ms part is above later (inr p) found fresh =
    let found_later : get_member k ms ≡ Some d = sym (ap (λ o. match_ordering o (get_member k ms) (Some e)
    (get_member k ms)) is) ∙ found in
    let fresh_later : get_member k p.0 ≡ None = sym (ap (λ o. match_ordering o (get_member k p.0) (Some e)
    (get_member k p.0)) is) ∙ (sym (ap (get_member k) p.1) ∙ fresh) in
    let placed : put k d (member l e p.0) ≡ member l e (put k d p.0) =
    ap (λ o. match_ordering o (member k d (member l e p.0)) (member l d p.0) (member l e (put k d p.0)))
    is in
    inr (put k d p.0, ap (put k d) p.1 ∙ placed, later p.0 p.2 found_later fresh_later)

-- a member that ms has and the part hasn't may be put into the part
IsPart-put : (k : List ℕ) (d : Data) (ms : Members) → IsSorted ms → (part : Members) → Putting k d ms part
IsPart-put k d no_members sorted part p found fresh = absurd (cc)
IsPart-put k d (member l e ms) sorted part p found fresh =
    IsPart-put_at (slice_cmp nat_cmp k l) k d l e ms part refl sorted.0 (λ rest. IsPart-put k d ms sorted.1
    rest) p found fresh

members_len-part : (part ms : Members) → IsPart part ms → members_len part ≤ members_len ms
members_len-part part no_members p = rw p (omega arith)
members_len-part part (member l e ms) (inl p) = omega (arith, members_len-part part ms p)
members_len-part part (member l e ms) (inr p) = rw p.1 (omega (arith, members_len-part p.0 ms p.2))

-- a part with as many members is the whole
whole_part : (part ms : Members) → IsPart part ms → members_len part ≡ members_len ms → part ≡ ms
whole_part part no_members p same = p
whole_part part (member l e ms) (inl p) same = absurd (omega (arith, members_len-part part ms p))
whole_part part (member l e ms) (inr p) same = p.1 ∙ ap (member l e) (whole_part p.0 ms p.2
    (omega (arith, ap members_len p.1)))

members_len-put_at : (o : Ordering) (k : List ℕ) (d : Data) (l : List ℕ) (e : Data) (ms : Members)
    → slice_cmp nat_cmp k l ≡ o → (get_member k ms ≡ None → members_len (put k d ms) ≡ suc (members_len ms))
    → get_member k (member l e ms) ≡ None
    → members_len (put k d (member l e ms)) ≡ suc (suc (members_len ms))
members_len-put_at Less k d l e ms is later fresh = rw is refl
members_len-put_at Equal k d l e ms is later fresh = absurd (let here : get_member k (member l e ms) ≡ Some
    e = ap (λ o. match_ordering o (get_member k ms) (Some e) (get_member k ms)) is in cc)
members_len-put_at Greater k d l e ms is later fresh =
    let fresh_later : get_member k ms ≡ None = sym (ap (λ o. match_ordering o (get_member k ms) (Some e)
    (get_member k ms)) is) ∙ fresh in
    rw is (ap suc (later fresh_later))

members_len-put : (k : List ℕ) (d : Data) (ms : Members) → get_member k ms ≡ None
    → members_len (put k d ms) ≡ suc (members_len ms)
members_len-put k d no_members fresh = refl
members_len-put k d (member l e ms) fresh = members_len-put_at (slice_cmp nat_cmp k l) k d l e ms refl
    (members_len-put k d ms) fresh

-- ---- members with names of their own

abbrev is_other : List ℕ → List Field → Bool
is_other k [] = true
is_other k (f ∷ fs) = not (bytes_eq f.0 k) && is_other k fs

-- no name stands twice
abbrev pub are_distinct : List Field → Bool
are_distinct [] = true
are_distinct (f ∷ fs) = is_other f.0 fs && are_distinct fs

other_name : (k l : List ℕ) → not (bytes_eq l k) ≡ true → l ≡ k → ⊥
other_name k l apart same = both_ways (bytes_eq l k) (not-true _ apart) ((bytes_eq-Decides l k).1 same)

abbrev AreFresh : List Field → Members → Type 0
AreFresh [] ms = Unit {0}
AreFresh (f ∷ fs) ms = (get_member f.0 ms ≡ None) × AreFresh fs ms

AreFresh-put : (k : List ℕ) (d : Data) (ms : Members) (fs : List Field) → is_other k fs ≡ true
    → AreFresh fs ms → AreFresh fs (put k d ms)
AreFresh-put k d ms [] apart fresh = tt
AreFresh-put k d ms (f ∷ fs) apart fresh =
    let each = and_parts _ _ apart in (
      get_member-put_other f.0 k d ms (other_name k f.0 each.0) ∙ fresh.0,
      AreFresh-put k d ms fs each.1
          fresh.1,
    )

AreFresh-none : (fs : List Field) → AreFresh fs no_members
AreFresh-none [] = tt
AreFresh-none (f ∷ fs) = (refl, AreFresh-none fs)

filled : (fs : List Field) (ms part : Members) → IsSorted ms → are_distinct fs ≡ true → HoldsFields fs ms
    → AreFresh fs part → IsPart part ms → members_len ms ≡ length fs + members_len part
    → with_fields fs part ≡ ms
filled [] ms part sorted apart has fresh p size = whole_part part ms p (omega arith)
filled (f ∷ fs) ms part sorted apart has fresh p size =
    let each = and_parts _ _ apart in
    filled fs ms (put f.0 f.1 part) sorted each.1 has.1 (AreFresh-put f.0 f.1 part fs each.0 fresh.1)
    (IsPart-put f.0 f.1 ms sorted part p has.0 fresh.0) (omega (arith, members_len-put f.0 f.1 part fresh.0))

IsPart-none : (ms : Members) → IsPart no_members ms
IsPart-none no_members = refl
IsPart-none (member l e ms) = inl (IsPart-none ms)

-- the object in which each field is found, and which has as many members as there are fields
pub with_fields-found : (fs : List Field) (ms : Members) → IsSorted ms → are_distinct fs ≡ true
    → HoldsFields fs ms → members_len ms ≡ length fs → ms ≡ with_fields fs no_members
with_fields-found fs ms sorted apart has size = sym (filled fs ms no_members sorted apart has
    (AreFresh-none fs) (IsPart-none ms) (omega arith))

placed : (fs : List Field) (ms part : Members) → IsSorted ms → are_distinct fs ≡ true → HoldsFields fs ms
    → AreFresh fs part → IsPart part ms → length fs + members_len part ≤ members_len ms
placed [] ms part sorted apart has fresh p = omega (arith, members_len-part part ms p)
placed (f ∷ fs) ms part sorted apart has fresh p =
    let each = and_parts _ _ apart in
    omega (
      arith,
      members_len-put f.0 f.1 part fresh.0,
      placed fs ms (put f.0 f.1 part) sorted each.1 has.1
          (AreFresh-put f.0 f.1 part fs each.0 fresh.1) (IsPart-put f.0 f.1 ms sorted part p has.0 fresh.0),
    )

-- the object in which each field is found has as many members at least
pub members_len-found : (fs : List Field) (ms : Members) → IsSorted ms → are_distinct fs ≡ true
    → HoldsFields fs ms → length fs ≤ members_len ms
members_len-found fs ms sorted apart has =
    omega (arith, placed fs ms no_members sorted apart has (AreFresh-none fs) (IsPart-none ms))

kept : (k : List ℕ) (fs : List Field) (ms : Members) → is_other k fs ≡ true
    → get_member k (with_fields fs ms) ≡ get_member k ms
kept k [] ms apart = refl
kept k (f ∷ fs) ms apart =
    let each = and_parts _ _ apart in
    kept k fs (put f.0 f.1 ms) each.1 ∙ get_member-put_other k f.0 f.1 ms (λ same. other_name k f.0 each.0
    (sym same))

HoldsFields-with_fields : (fs : List Field) (ms : Members) → are_distinct fs ≡ true
    → HoldsFields fs (with_fields fs ms)
HoldsFields-with_fields [] ms apart = tt
HoldsFields-with_fields (f ∷ fs) ms apart =
    let each = and_parts _ _ apart in (
      kept f.0 fs (put f.0 f.1 ms) each.0 ∙ get_member-put f.0 f.1 ms,
      HoldsFields-with_fields fs
          (put f.0 f.1 ms) each.1,
    )

members_len-with_fields_from : (fs : List Field) (ms : Members) → are_distinct fs ≡ true → AreFresh fs ms
    → members_len (with_fields fs ms) ≡ length fs + members_len ms
members_len-with_fields_from [] ms apart fresh = omega arith
members_len-with_fields_from (f ∷ fs) ms apart fresh =
    let each = and_parts _ _ apart in
    members_len-with_fields_from fs (put f.0 f.1 ms) each.1 (AreFresh-put f.0 f.1 ms fs each.0 fresh.1)
    ∙ omega (arith, members_len-put f.0 f.1 ms fresh.0)

-- the object with these fields has each of them
pub found-with_fields : (fs : List Field) → are_distinct fs ≡ true
    → HoldsFields fs (with_fields fs no_members)
found-with_fields fs apart = HoldsFields-with_fields fs no_members apart

-- and no more
pub members_len-with_fields : (fs : List Field) → are_distinct fs ≡ true
    → members_len (with_fields fs no_members) ≡ length fs
members_len-with_fields fs apart = members_len-with_fields_from fs no_members apart (AreFresh-none fs)
    ∙ omega arith

-- ---- what holds of each field holds of each member

abbrev pub AllFields : (List ℕ → Data → Type 0) → List Field → Type 0
AllFields P [] = Unit {0}
AllFields P (f ∷ fs) = P f.0 f.1 × AllFields P fs

abbrev pub AllMembers : (List ℕ → Data → Type 0) → Members → Type 0
AllMembers P no_members = Unit {0}
AllMembers P (member k d ms) = P k d × AllMembers P ms

AllMembers-put_at : (P : List ℕ → Data → Type 0) (o : Ordering) (k : List ℕ) (d : Data) (l : List ℕ)
    (e : Data) (ms : Members) → slice_cmp nat_cmp k l ≡ o → P k d → AllMembers P (member l e ms)
    → AllMembers P (put k d ms)
    → AllMembers P (match_ordering o (member k d (member l e ms)) (member l d ms) (member l e (put k d ms)))
AllMembers-put_at P Less k d l e ms is here there later = (here, there)
AllMembers-put_at P Equal k d l e ms is here there later = (
  subst (λ n. P n d) (same_name k l is) here,
  there.1,
)
AllMembers-put_at P Greater k d l e ms is here there later = (there.0, later)

AllMembers-put : (P : List ℕ → Data → Type 0) (k : List ℕ) (d : Data) (ms : Members) → P k d → AllMembers P ms
    → AllMembers P (put k d ms)
AllMembers-put P k d no_members here there = (here, tt)
AllMembers-put P k d (member l e ms) here there = AllMembers-put_at P (slice_cmp nat_cmp k l) k d l e ms refl
    here there (AllMembers-put P k d ms here there.1)

AllMembers-with_fields_from : (P : List ℕ → Data → Type 0) (fs : List Field) (ms : Members) → AllFields P fs
    → AllMembers P ms → AllMembers P (with_fields fs ms)
AllMembers-with_fields_from P [] ms h k = k
AllMembers-with_fields_from P (f ∷ fs) ms h k = AllMembers-with_fields_from P fs (put f.0 f.1 ms) h.1
    (AllMembers-put P f.0 f.1 ms h.0 k)

pub AllMembers-with_fields : (P : List ℕ → Data → Type 0) (fs : List Field) → AllFields P fs
    → AllMembers P (with_fields fs no_members)
AllMembers-with_fields P fs h = AllMembers-with_fields_from P fs no_members h tt
