-- The free numbers of a table, where one is given, comes back, or is added.
use Rattle.std.proofs.Common.{◌≡◌, ◌<◌, ◌≤◌, ◌∷◌, ◌++◌, ◌∙◌, ℕ, List, [], Bool, Option, None, Some}
use Rattle.std.proofs.Common.{true, false, IsSome, is_none, arith, refl, sym, ap, subst, length, get_or}
use Rattle.std.proofs.Common.{length-append, map, slice_set}
use Rattle.std.proofs.lemmas.Bool.{false≢true}
use Rattle.std.proofs.lemmas.List.{get_or-map, get_or-set_other, get_or-set_same, get_or_past, length-map}
use Rattle.std.proofs.lemmas.List.{map-set}
use Rattle.std.proofs.lemmas.List.{map_push}
use Rattle.std.proofs.Math.Seq.{map-set_same}
use Rattle.rv_server_connections.specs.declared.table.WireSlot.{WireSlot}
use Rattle.rv_server_connections.specs.Flags.{AreListed}
use Rattle.rv_server_connections.specs.Table.{SetsSlot, TableState, get}
use Rattle.rv_server_connections.proofs.Listing.{fewer, flag_added, last_flag, last_within, marked, unmarked}

abbrev pub Places : Type 0
Places = List (Option WireSlot)

-- ---- one place

pub set_place : (t u : TableState) (n : ℕ) (o : Option WireSlot) → n < length t.places
    → u.places ≡ slice_set t.places n o → SetsSlot (get t) n o (get u)
set_place t u n o within is = record {
  own = ap (λ (l : Places). get_or l n None) is ∙ get_or-set_same t.places n o None within;
  others = λ k apart. ap (λ (l : Places). get_or l k None) is
      ∙ get_or-set_other t.places n k o None apart;
}

pub place_within : (places : Places) (n : ℕ) (slot : WireSlot) → get_or places n None ≡ Some slot
    → n < length places
place_within places n slot there = not_past n (length places) (λ past.
    some_none (sym there ∙ get_or_past places n None past))
  where
    not_past : (a b : ℕ) → (b ≤ a → ⊥) → a < b
    not_past = grind arith

    some_none : Some slot ≡ None → ⊥
    some_none is = cc

taken_flag : (places : Places) (n : ℕ) (slot : WireSlot) → get_or places n None ≡ Some slot
    → get_or (map is_none places) n false ≡ false
taken_flag places n slot there =
    get_or-map is_none places n None false (place_within places n slot there) ∙ ap is_none there

none_is : (o : Option WireSlot) → is_none o ≡ true → o ≡ None
none_is None is = refl
none_is (Some slot) is = absurd (false≢true is)

-- ---- a number is given

module _ (places : Places) (numbers rest : List ℕ) (room n : ℕ)
    (was : AreListed (map is_none places) numbers room) (last : numbers ≡ rest ++ n ∷ []) where
  pub free_within : n < length places
  free_within =
      let flags : length (map is_none places) ≡ length places = length-map places is_none in
      omega (arith, flags, last_within (map is_none places) numbers rest room n was last)

  pub free_place : get_or places n None ≡ None
  free_place = none_is (get_or places n None) (sym (get_or-map is_none places n None false free_within)
      ∙ last_flag (map is_none places) numbers rest room n was last)

  pub given_place : (slot : WireSlot) (more : ℕ) → more ≡ room
      → AreListed (map is_none (slice_set places n (Some slot))) rest more
  given_place slot more same = unmarked (map is_none places) _ numbers rest room more n was last
      (map-set is_none places n (Some slot)) same

-- ---- a number comes back

module _ (places : Places) (numbers : List ℕ) (room n : ℕ) (slot : WireSlot)
    (was : AreListed (map is_none places) numbers room) (there : get_or places n None ≡ Some slot) where
  within : n < length (map is_none places)
  within =
      let flags : length (map is_none places) ≡ length places = length-map places is_none in
      omega (arith, flags, place_within places n slot there)

  pub room_back : length numbers < room
  room_back =
      omega (
        arith,
        was.count,
        was.fits,
        fewer (map is_none places) n within (taken_flag places n slot there),
      )

  pub place_back : (new : List ℕ) (more : ℕ) → new ≡ numbers ++ n ∷ [] → more ≡ room
      → AreListed (map is_none (slice_set places n None)) new more
  place_back new more are same = marked (map is_none places) _ numbers new room more n was within
      (taken_flag places n slot there) (map-set is_none places n None) are same

  pub place_kept : (next : WireSlot) → AreListed (map is_none (slice_set places n (Some next))) numbers room
  place_kept next = subst (λ (flags : List Bool). AreListed flags numbers room)
      (sym (map-set_same is_none places n (Some next) None (sym (ap is_none there)))) was

-- ---- a number is added

set_last : (flags : List Bool) → slice_set (flags ++ false ∷ []) (length flags) true ≡ flags ++ true ∷ []
set_last [] = refl
set_last (b ∷ flags) = ap (λ l. b ∷ l) (set_last flags)

last_out : (flags : List Bool) → get_or (flags ++ false ∷ []) (length flags) false ≡ false
last_out [] = refl
last_out (b ∷ flags) = last_out flags

pub place_added : (places : Places) (numbers new : List ℕ) (room more : ℕ)
    → AreListed (map is_none places) numbers room → new ≡ numbers ++ length places ∷ []
    → length places < more → room ≤ more → AreListed (map is_none (places ++ None ∷ [])) new more
place_added places numbers new room more was are within grows =
    let flags : List Bool = map is_none places in
    let long : length flags ≡ length places = length-map places is_none in
    let wider : AreListed flags numbers more =
    record { each = was.each; once = was.once; count = was.count; fits = omega (arith, was.fits, grows) } in
    let added = flag_added flags (flags ++ false ∷ []) numbers more wider refl (omega (arith, long, within))
    in
    marked (flags ++ false ∷ []) _ numbers new more more (length flags) added
    (omega (arith, length-append flags (false ∷ []))) (last_out flags)
    (map_push is_none places None ∙ sym (set_last flags))
    (are ∙ ap (λ n. numbers ++ n ∷ []) (sym long)) refl

pub same_places : (places : Places) (numbers new : List ℕ) (room more : ℕ)
    → AreListed (map is_none places) numbers room → new ≡ numbers → room ≤ more
    → AreListed (map is_none places) new more
same_places places numbers new room more was are grows =
    subst (λ (l : List ℕ). AreListed (map is_none places) l more) (sym are)
    (record { each = was.each; once = was.once; count = was.count; fits = omega (arith, was.fits, grows) })

-- ---- what is there

pub there_is : (o : Option WireSlot) → IsSome o → (slot : WireSlot) × (o ≡ Some slot)
there_is None some = absurd (cc)
there_is (Some slot) some = (slot, refl)
