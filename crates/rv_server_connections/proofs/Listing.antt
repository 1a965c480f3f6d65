-- A list of numbers, beside which a flag tells of each whether it is listed.
use Rattle.std.proofs.Common.{◌≡◌, ◌≢◌, ◌⊎◌, ◌<◌, ◌≤◌, ◌+◌, ◌∷◌, ◌++◌, ◌∙◌, ◌↔◌, ℕ, List, [], Bool, true}
use Rattle.std.proofs.Common.{false}
use Rattle.std.proofs.Common.{arith, refl, sym, ap, subst, inl, inr, zero, suc, Contains, length, get_or}
use Rattle.std.proofs.Common.{length-append, if◌then◌else◌, nat_eq, slice_set, take}
use Rattle.std.specs.List.{AllPairs}
use Rattle.std.proofs.lemmas.Bool.{cases_eq, false≢true}
use Rattle.std.proofs.lemmas.List.{get_or-set_other, get_or-set_same, get_or_append_left, length-set}
use Rattle.std.proofs.lemmas.List.{take_all}
use Rattle.std.proofs.Math.Seq.{get_or-append_seam, take-suc}
use Rattle.std.proofs.lemmas.List.Elements.{Contains-append_left, Contains-get_or, Contains-push}
use Rattle.std.proofs.lemmas.List.Elements.{Contains-push_cases}
use Rattle.std.proofs.lemmas.List.Quantifiers.{all_pairs_push}
use Rattle.rv_server_connections.specs.Connections.{ListsAll, ListsOne}
use Rattle.rv_server_connections.specs.Flags.{AreListed, flag_count, has_number}

abbrev pub Differ : List ℕ → Type 0
Differ numbers = AllPairs (λ one other. one ≢ other) numbers

-- ---- a list without its last

pub front_differs : (rest : List ℕ) (c : ℕ) → Differ (rest ++ c ∷ []) → Differ rest
front_differs rest c pairs i j d less within same =
    pairs i j d less (omega (arith, length-append rest (c ∷ [])))
    (get_or_append_left rest (c ∷ []) d i (omega arith) ∙ same ∙ sym (get_or_append_left rest (c ∷ []) d j
    within))

pub not_again : (rest : List ℕ) (c : ℕ) → Differ (rest ++ c ∷ []) → Contains rest c → ⊥
not_again rest c pairs there =
    pairs there.0 (length rest) c there.1 (omega (arith, length-append rest (c ∷ [])))
    (get_or_append_left rest (c ∷ []) c there.0 there.1 ∙ there.2 ∙ sym (get_or-append_seam rest c [] c))

-- ---- a flag tells whether a number is listed

same_bool : (a b : Bool) → ((a ≡ true) ↔ (b ≡ true)) → a ≡ b
same_bool true true both = refl
same_bool false false both = refl
same_bool true false both = absurd (false≢true (both.0 refl))
same_bool false true both = absurd (false≢true (both.1 refl))

own_number : (k : ℕ) → nat_eq k k ≡ true
own_number = grind arith

same_number : (x k : ℕ) → nat_eq x k ≡ true → x ≡ k
same_number = grind arith

or_true : (b : Bool) → (if b then true else true) ≡ true
or_true true = refl
or_true false = refl

or_cases : (a b : Bool) → (if a then true else b) ≡ true → (a ≡ true) ⊎ (b ≡ true)
or_cases true b is = inl refl
or_cases false b is = inr is

Contains-cons : (head x : ℕ) (rest : List ℕ) → Contains rest x → Contains (head ∷ rest) x
Contains-cons head x rest p = (suc p.0, omega (arith, p.1), p.2)

Contains-cons_cases : (head x : ℕ) (rest : List ℕ) → Contains (head ∷ rest) x
    → (head ≡ x) ⊎ Contains rest x
Contains-cons_cases head x rest p = by_index p.0 p.1 p.2
  where
    by_index : (k : ℕ) → k < suc (length rest) → get_or (head ∷ rest) k x ≡ x → (head ≡ x) ⊎ Contains rest x
    by_index zero within found = inl found
    by_index (suc k) within found = inr (k, omega arith, found)

has_to : (numbers : List ℕ) (k : ℕ) → has_number numbers k ≡ true → Contains numbers k
has_to [] k has = absurd (false≢true has)
has_to (x ∷ numbers) k has = elim (or_cases (nat_eq x k) (has_number numbers k) has) [
  | inl own ↦ (0, omega arith, same_number x k own)
  | inr more ↦ Contains-cons x k numbers (has_to numbers k more)
]

has_from : (numbers : List ℕ) (k : ℕ) → Contains numbers k → has_number numbers k ≡ true
has_from [] k there = absurd (omega (arith, there.1))
has_from (x ∷ numbers) k there = elim (Contains-cons_cases x k numbers there) [
  | inl own ↦ ap (λ (b : Bool). if b then true else has_number numbers k) (ap (λ n. nat_eq n k) own
      ∙ own_number k)
  | inr more ↦ ap (λ (b : Bool). if nat_eq x k then true else b) (has_from numbers k more)
      ∙ or_true (nat_eq x k)
]

pair_at : {flags : List Bool} {numbers : List ℕ} {room : ℕ} → AreListed flags numbers room → (k : ℕ)
    → (get_or flags k false ≡ true) ↔ Contains numbers k
pair_at {flags} {numbers} was k = (
  λ set. has_to numbers k (sym (was.each k) ∙ set),
  λ there. was.each k ∙ has_from numbers k there,
)

same_flag : (flags : List Bool) (numbers : List ℕ) (k : ℕ)
    → ((get_or flags k false ≡ true) ↔ Contains numbers k) → get_or flags k false ≡ has_number numbers k
same_flag flags numbers k both = same_bool (get_or flags k false) (has_number numbers k)
    (λ set. has_from numbers k (both.0 set), λ has. both.1 (has_to numbers k has))

-- ---- counts of flags

set_true : (flags : List Bool) (k : ℕ) → k < length flags → get_or flags k false ≡ false
    → flag_count (slice_set flags k true) ≡ flag_count flags + 1
set_true [] k within out = absurd (omega arith)
set_true (true ∷ flags) zero within out = absurd (false≢true (sym out))
set_true (false ∷ flags) zero within out = omega arith
set_true (true ∷ flags) (suc k) within out = omega (arith, set_true flags k (omega arith) out)
set_true (false ∷ flags) (suc k) within out = omega (arith, set_true flags k (omega arith) out)

set_false : (flags : List Bool) (k : ℕ) → get_or flags k false ≡ true
    → flag_count (slice_set flags k false) + 1 ≡ flag_count flags
set_false [] k set = absurd (false≢true set)
set_false (true ∷ flags) zero set = omega arith
set_false (false ∷ flags) zero set = absurd (false≢true set)
set_false (true ∷ flags) (suc k) set = omega (arith, set_false flags k set)
set_false (false ∷ flags) (suc k) set = omega (arith, set_false flags k set)

at_most : (flags : List Bool) → flag_count flags ≤ length flags
at_most [] = omega arith
at_most (true ∷ flags) = omega (arith, at_most flags)
at_most (false ∷ flags) = omega (arith, at_most flags)

pub fewer : (flags : List Bool) (k : ℕ) → k < length flags → get_or flags k false ≡ false
    → flag_count flags < length flags
fewer flags k within out =
    omega (arith, set_true flags k within out, at_most (slice_set flags k true), length-set flags k true)

more_flags : (flags : List Bool) → flag_count (flags ++ false ∷ []) ≡ flag_count flags
more_flags [] = refl
more_flags (true ∷ flags) = omega (arith, more_flags flags)
more_flags (false ∷ flags) = omega (arith, more_flags flags)

has_flag : (flags : List Bool) (k : ℕ) → get_or flags k false ≡ true → k < length flags
has_flag [] k set = absurd (false≢true set)
has_flag (b ∷ flags) zero set = omega arith
has_flag (b ∷ flags) (suc k) set = omega (arith, has_flag flags k set)

pub get_or_set : (flags : List Bool) (k : ℕ) (b : Bool) → get_or flags k b ≡ b → b ≡ true → k < length flags
    → get_or flags k false ≡ true
get_or_set [] k b is set within = absurd (omega arith)
get_or_set (x ∷ flags) zero b is set within = is ∙ set
get_or_set (x ∷ flags) (suc k) b is set within = get_or_set flags k b is set (omega arith)

-- ---- one flag more

pub same_at : {A : Type 0} (d : A) (items : List A) (k : ℕ) → get_or (items ++ d ∷ []) k d ≡ get_or items k d
same_at d [] zero = refl
same_at d [] (suc k) = refl
same_at d (x ∷ items) zero = refl
same_at d (x ∷ items) (suc k) = same_at d items k

pub flag_added : (flags new : List Bool) (numbers : List ℕ) (room : ℕ) → AreListed flags numbers room
    → new ≡ flags ++ false ∷ [] → length flags < room → AreListed new numbers room
flag_added flags new numbers room was is within = record {
  each = λ k. ap (λ l. get_or l k false) is ∙ same_at false flags k ∙ was.each k;
  once = was.once;
  count = was.count ∙ sym (ap flag_count is ∙ more_flags flags);
  fits = omega (arith, ap length is, length-append flags (false ∷ []), within);
}

-- ---- a number is listed

pub marked : (old new : List Bool) (before numbers : List ℕ) (room more n : ℕ) → AreListed old before room
    → n < length old → get_or old n false ≡ false → new ≡ slice_set old n true → numbers ≡ before ++ n ∷ []
    → more ≡ room → AreListed new numbers more
marked old new before numbers room more n was within out flags are same_room = record {
  each = λ k. same_flag new numbers k (
    λ set. to k (ap (λ l. get_or l k false) (sym flags) ∙ set) (cases_eq k n),
    λ there. from k
        (Contains-push_cases before n k (subst (λ l. Contains l k) are there)) (cases_eq k n),
  );
  once = subst Differ (sym are) (all_pairs_push (λ one other. one ≢ other) before n was.once
      (λ i d less same. false≢true (sym out ∙ (pair_at was n).1 (subst (Contains before) same
      (Contains-get_or before i d less)))));
  count = omega (
    arith,
    ap length are,
    length-append before (n ∷ []),
    was.count,
    set_true old n within out,
    ap flag_count flags,
  );
  fits = omega (arith, ap length flags, length-set old n true, was.fits, same_room);
}
  where
    to : (k : ℕ) → get_or (slice_set old n true) k false ≡ true → (k ≡ n) ⊎ (k ≢ n)
        → Contains numbers k
    to k set (inl same) = subst (λ l. Contains l k) (sym are)
        (subst (Contains (before ++ n ∷ [])) (sym same) (Contains-push before n))
    to k set (inr apart) = subst (λ l. Contains l k) (sym are)
        (Contains-append_left before (n ∷ []) k
        ((pair_at was k).0 (sym (get_or-set_other old n k true false apart) ∙ set)))

    from : (k : ℕ) → Contains before k ⊎ (n ≡ k) → (k ≡ n) ⊎ (k ≢ n)
        → get_or new k false ≡ true
    from k there (inl same) = ap (λ l. get_or l k false) flags
        ∙ ap (λ j. get_or (slice_set old n true) j false) same
        ∙ get_or-set_same old n true false within
    from k (inl there) (inr apart) = ap (λ l. get_or l k false) flags
        ∙ get_or-set_other old n k true false apart ∙ (pair_at was k).1 there
    from k (inr own) (inr apart) = absurd (apart (sym own))

pub lists_one : (old new : List ℕ) (n : ℕ) → new ≡ old ++ n ∷ [] → ListsOne old n new
lists_one old new n is k = (
  λ there. to (Contains-push_cases old n k (subst (λ l. Contains l k) is there)),
  from,
)
  where
    to : Contains old k ⊎ (n ≡ k) → Contains old k ⊎ (k ≡ n)
    to (inl there) = inl there
    to (inr own) = inr (sym own)

    from : Contains old k ⊎ (k ≡ n) → Contains new k
    from (inl there) = subst (λ l. Contains l k) (sym is) (Contains-append_left old (n ∷ []) k there)
    from (inr own) = subst (λ l. Contains l k) (sym is) (subst (Contains (old ++ n ∷ [])) (sym own)
        (Contains-push old n))

pub lists_again : (flags : List Bool) (numbers : List ℕ) (room n : ℕ) → AreListed flags numbers room
    → get_or flags n false ≡ true → ListsOne numbers n numbers
lists_again flags numbers room n was set k = (λ there. inl there, from)
  where
    from : Contains numbers k ⊎ (k ≡ n) → Contains numbers k
    from (inl there) = there
    from (inr own) = subst (Contains numbers) (sym own) ((pair_at was n).0 set)

-- ---- the last is listed no longer

pub last_flag : (flags : List Bool) (numbers rest : List ℕ) (room n : ℕ) → AreListed flags numbers room
    → numbers ≡ rest ++ n ∷ [] → get_or flags n false ≡ true
last_flag flags numbers rest room n was last = (pair_at was n).1 (subst (λ l. Contains l n) (sym last)
    (Contains-push rest n))

pub last_within : (flags : List Bool) (numbers rest : List ℕ) (room n : ℕ) → AreListed flags numbers room
    → numbers ≡ rest ++ n ∷ [] → n < length flags
last_within flags numbers rest room n was last =
    has_flag flags n (last_flag flags numbers rest room n was last)

pub unmarked : (old new : List Bool) (before numbers : List ℕ) (room more n : ℕ) → AreListed old before room
    → before ≡ numbers ++ n ∷ [] → new ≡ slice_set old n false → more ≡ room → AreListed new numbers more
unmarked old new before numbers room more n was last flags same_room = record {
  each = λ k. same_flag new numbers k (
    λ set. to k (ap (λ l. get_or l k false) (sym flags) ∙ set) (cases_eq k n),
    λ there. from k there
        (cases_eq k n),
  );
  once = front_differs numbers n (subst Differ last was.once);
  count = omega (
    arith,
    ap length last,
    length-append numbers (n ∷ []),
    was.count,
    set_false old n own,
    ap flag_count flags,
  );
  fits = omega (arith, ap length flags, length-set old n false, was.fits, same_room);
}
  where
    own : get_or old n false ≡ true
    own = last_flag old before numbers room n was last

    to : (k : ℕ) → get_or (slice_set old n false) k false ≡ true → (k ≡ n) ⊎ (k ≢ n)
        → Contains numbers k
    to k set (inl same) =
        absurd (false≢true (sym (ap (λ j. get_or (slice_set old n false) j false)
        same ∙ get_or-set_same old n false false (has_flag old n own)) ∙ set))
    to k set (inr apart) = in_front k apart (Contains-push_cases numbers n k
        (subst (λ l. Contains l k) last ((pair_at was k).0 (sym (get_or-set_other old n k false
        false
        apart) ∙ set))))
      where
        in_front : (j : ℕ) → j ≢ n → Contains numbers j ⊎ (n ≡ j) → Contains numbers j
        in_front j other (inl there) = there
        in_front j other (inr is) = absurd (other (sym is))

    from : (k : ℕ) → Contains numbers k → (k ≡ n) ⊎ (k ≢ n) → get_or new k false ≡ true
    from k there (inl same) = absurd (not_again numbers n (subst Differ last was.once)
        (subst (Contains numbers) same there))
    from k there (inr apart) = ap (λ l. get_or l k false) flags
        ∙ get_or-set_other old n k false false apart
        ∙ (pair_at was k).1 (subst (λ l. Contains l k) (sym last) (Contains-append_left numbers
        (n ∷ []) k
        there))

-- ---- numbers are listed one after another

pub lists_more : (old now new numbers : List ℕ) (i : ℕ) → i < length numbers
    → ListsAll old (take i numbers) now
    → ListsOne now (get_or numbers i 0) new → ListsAll old (take (i + 1) numbers) new
lists_more old now new numbers i within all one =
    let next : i + 1 ≡ suc i = omega arith in
    subst (λ l. ListsAll old l new) (sym (ap (λ n. take n numbers) next ∙ take-suc numbers i 0 within)) each
  where
    each : ListsAll old (take i numbers ++ get_or numbers i 0 ∷ []) new
    each k = (λ there. to ((one k).0 there), from)
      where
        to : Contains now k ⊎ (k ≡ get_or numbers i 0)
            → Contains old k ⊎ Contains (take i numbers ++ get_or numbers i 0 ∷ []) k
        to (inr own) = inr (subst (Contains (take i numbers ++ get_or numbers i 0 ∷ [])) (sym own)
            (Contains-push (take i numbers) (get_or numbers i 0)))
        to (inl there) = elim ((all k).0 there) [
          | inl before ↦ inl before
          | inr among ↦ inr (Contains-append_left (take i numbers) (get_or numbers i 0 ∷ []) k among)
        ]

        from : Contains old k ⊎ Contains (take i numbers ++ get_or numbers i 0 ∷ []) k → Contains new k
        from (inl before) = (one k).1 (inl ((all k).1 (inl before)))
        from (inr among) = elim (Contains-push_cases (take i numbers) (get_or numbers i 0) k among) [
          | inl earlier ↦ (one k).1 (inl ((all k).1 (inr earlier)))
          | inr own ↦ (one k).1 (inr (sym own))
        ]

pub lists_whole : (old new numbers : List ℕ) (i : ℕ) → length numbers ≤ i → ListsAll old (take i numbers) new
    → ListsAll old numbers new
lists_whole old new numbers i past all = subst (λ l. ListsAll old l new) (take_all i numbers past) all
