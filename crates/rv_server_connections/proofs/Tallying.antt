-- The list of those that changed, and the sum of unread bytes, where connections change.
use Rattle.std.proofs.Common.{◌≡◌, ◌⊎◌, ◌<◌, ◌≤◌, ◌+◌, ◌∙◌, ℕ, List, Option, None, Some, arith, refl, sym}
use Rattle.std.proofs.Common.{IfNone, IfSome, ap, subst, inl, inr, Contains, Err, IsSome, Ok, OnErr, Result}
use Rattle.std.proofs.Common.{[], length}
use Rattle.rv_server_connections.specs.Table.{get}
use Rattle.rv_server_connections.specs.connection.Traffic.{Traffic}
use Rattle.rv_server_connections.specs.connection.Steps.{HoldsBack, Releases}
use Rattle.rv_server_connections.specs.declared.changes.ChangeList.{ChangeList}
use Rattle.rv_server_connections.specs.declared.noted.Noted.{Noted}
use Rattle.rv_server_connections.specs.declared.slots.Slots.{Slots}
use Rattle.rv_server_connections.specs.Connections.{AllHeldBack, HasWire, IsReleased, ListsAll, ListsOne}
use Rattle.rv_server_connections.specs.Connections.{Notes, NotesReleased, ReleasesAll, ReleasesOpen, SetsWire}
use Rattle.rv_server_connections.specs.Connections.{WiresState, count_at, none_open, total_below}
use Rattle.rv_server_connections.specs.Connections.{unread_count}
use Rattle.rv_server_connections.specs.Fields.{IsSoundSlots, slots_state, wire_of, wires_at}
use Rattle.rv_server_connections.specs.Noting.{IsChanges, IsNoted, tally_of}
use Rattle.rv_server_connections.proofs.Answered.{slot_of}
use Rattle.rv_server_connections.proofs.Changing.{none_below}
use Rattle.rv_server_connections.proofs.Freeing.{holds_back}
use Rattle.rv_server_connections.proofs.Totals.{AllBelow, same_totals, totals, up_to}

some_none : {A : Type 0} (x : A) → Some x ≡ None → ⊥
some_none x is = cc

-- what holds of a value that is there, or where none is
pub some_of : {A : Type 0} (o : Option A) (x : A) (P : A → Type 0) → o ≡ Some x → IfSome o P → P x
some_of {A} o x P is holds = subst (λ (q : Option A). IfSome q P) is holds

pub none_of : {A : Type 0} (o : Option A) (P : Type 0) → o ≡ None → IfNone o P → P
none_of {A} o P is holds = subst (λ (q : Option A). IfNone q P) is holds

abbrev unread_of : Slots → ℕ
unread_of s = total_below unread_count (wires_at (get s.slots)) s.slots.room

all_below : (s : Slots) → IsSoundSlots s → AllBelow (wires_at (get s.slots)) s.slots.room
all_below s sound = none_below (get s.slots) s.slots.room sound.indexed.counted.held.all_below

-- ---- the sum

pub unread_set : (s t : Slots) (c : ℕ) (o : Option Traffic) → IsSoundSlots s → IsSoundSlots t
    → SetsWire (slots_state s) c o (slots_state t)
    → unread_of t + count_at unread_count ((slots_state s).wires c)
    ≡ unread_of s + count_at unread_count ((slots_state t).wires c)
unread_set s t c o sound after sets =
    totals unread_count (wires_at (get s.slots)) (wires_at (get t.slots)) c s.slots.room t.slots.room
    (all_below s sound) (all_below t after) sets.others

pub unread_same : (s t : Slots) → IsSoundSlots s → IsSoundSlots t
    → ((k : ℕ) → count_at unread_count ((slots_state t).wires k) ≡ count_at unread_count
    ((slots_state s).wires k))
    → unread_of t ≡ unread_of s
unread_same s t sound after same =
    let most : ℕ = s.slots.room + t.slots.room in
    let old : total_below unread_count (wires_at (get s.slots)) most ≡ unread_of s =
    up_to unread_count (wires_at (get s.slots)) s.slots.room most (all_below s sound) (omega arith) in
    let new : total_below unread_count (wires_at (get t.slots)) most ≡ unread_of t =
    up_to unread_count (wires_at (get t.slots)) t.slots.room most (all_below t after) (omega arith) in
    sym new ∙ same_totals unread_count (wires_at (get s.slots)) (wires_at (get t.slots)) most same ∙ old

-- ---- room in the list

within : (wires : ℕ → Option Traffic) (room c : ℕ) → ((k : ℕ) → room ≤ k → wires k ≡ None)
    → (o : Option Traffic) → wires c ≡ o → IsSome o → c < room
within wires room c below None is some = absurd (cc)
within wires room c below (Some wire) is some =
    not_past c room (λ past. some_none wire (sym is ∙ below c past))
  where
    not_past : (a b : ℕ) → (b ≤ a → ⊥) → a < b
    not_past = grind arith

pub open_within : (n : Noted) (c : ℕ) → IsNoted n → IsSome ((slots_state n.slots).wires c)
    → c < length n.changes.flags.items
open_within n c noted there = within (wires_at (get n.slots.slots)) (length n.changes.flags.items) c
    noted.room
    ((slots_state n.slots).wires c) refl there

pub has_within : (n : Noted) (c : ℕ) (is_so : Traffic → Type 0) → IsNoted n
    → HasWire (slots_state n.slots) c is_so → c < length n.changes.flags.items
has_within n c is_so noted has = within (wires_at (get n.slots.slots)) (length n.changes.flags.items) c
    noted.room (Some has.wire) has.there refl

-- ---- one connection changed

pub noted_set : (n m : Noted) (c : ℕ) (o : Option Traffic) → IsNoted n → IsSoundSlots m.slots
    → SetsWire (slots_state n.slots) c o (slots_state m.slots) → c < length m.changes.flags.items
    → IsChanges m.changes → length n.changes.flags.items ≤ length m.changes.flags.items → IsNoted m
noted_set n m c o noted sound sets inside changes room = record {
  sound = sound;
  changes = changes;
  room = λ k past. sets.others k (λ is. absurd (omega (arith, is, past, inside)))
      ∙ noted.room k (omega (arith, past, room));
}

pub notes_set : (n m : Noted) (c : ℕ) (o : Option Traffic) → IsNoted n → IsSoundSlots m.slots
    → SetsWire (slots_state n.slots) c o (slots_state m.slots)
    → ListsOne n.changes.numbers.items c m.changes.numbers.items
    → Notes (slots_state n.slots) (tally_of n) c (slots_state m.slots) (tally_of m)
notes_set n m c o noted sound sets lists = record {
  changed = lists;
  unread = unread_set n.slots m.slots c o noted.sound sound sets;
}

-- ---- none did

wires_same : (s t : WiresState) → t ≡ s → (k : ℕ) → t.wires k ≡ s.wires k
wires_same s t same k = ap (λ (x : WiresState). x.wires k) same

pub noted_same : (n m : Noted) → IsNoted n → IsSoundSlots m.slots → slots_state m.slots ≡ slots_state n.slots
    → IsChanges m.changes → length n.changes.flags.items ≤ length m.changes.flags.items → IsNoted m
noted_same n m noted sound same changes room = record {
  sound = sound;
  changes = changes;
  room = λ k past. wires_same (slots_state n.slots) (slots_state m.slots) same k
      ∙ noted.room k (omega (arith, past, room));
}

pub tally_same : (n m : Noted) → IsSoundSlots n.slots → IsSoundSlots m.slots
    → slots_state m.slots ≡ slots_state n.slots → m.changes.numbers.items ≡ n.changes.numbers.items
    → tally_of m ≡ tally_of n
tally_same n m sound after same numbers =
    ap (λ (l : List ℕ). record { changed = l; unread = unread_of m.slots }) numbers
    ∙ ap (λ u. record { changed = n.changes.numbers.items; unread = u })
    (unread_same n.slots m.slots sound after (λ k. ap (count_at unread_count)
    (wires_same (slots_state n.slots) (slots_state m.slots) same k)))

-- ---- so many entries are written

unread_stays : (written : ℕ) (old new : Option Traffic) → ReleasesOpen written old new
    → count_at unread_count new ≡ count_at unread_count old
unread_stays written None new opened = ap (count_at unread_count) opened
unread_stays written (Some wire) None opened = absurd opened
unread_stays written (Some wire) (Some after) opened =
    let releases : Releases written wire after = opened in
    ap unread_count releases.goes

none_stays : (written : ℕ) (old new : Option Traffic) → ReleasesOpen written old new → old ≡ None → new ≡ None
none_stays written None new opened none = opened
none_stays written (Some wire) new opened none = absurd (some_none wire none)

pub released_within : (n : Noted) (written c : ℕ) → IsNoted n → IsReleased (slots_state n.slots) written c
    → c < length n.changes.flags.items
released_within n written c noted is = within (wires_at (get n.slots.slots)) (length n.changes.flags.items) c
    noted.room (Some is.wire) is.there refl

pub noted_released : (n m : Noted) (written : ℕ) → IsNoted n → IsSoundSlots m.slots
    → ReleasesAll (slots_state n.slots) written (slots_state m.slots) → IsChanges m.changes
    → length n.changes.flags.items ≤ length m.changes.flags.items → IsNoted m
noted_released n m written noted sound all changes room = record {
  sound = sound;
  changes = changes;
  room = λ k past. none_stays written ((slots_state n.slots).wires k) ((slots_state m.slots).wires k)
      (all.each k)
      (noted.room k (omega (arith, past, room)));
}

pub notes_released : (n m : Noted) (written : ℕ) → IsNoted n → IsSoundSlots m.slots
    → ReleasesAll (slots_state n.slots) written (slots_state m.slots)
    → ListsAll n.changes.numbers.items m.slots.released.items m.changes.numbers.items
    → NotesReleased (slots_state n.slots) (tally_of n) written (tally_of m)
notes_released n m written noted sound all lists = record {
  changed = λ c. (λ there. to c ((lists c).0 there), λ which. from c which);
  unread = unread_same n.slots m.slots noted.sound sound (λ k. unread_stays written
      ((slots_state n.slots).wires k) ((slots_state m.slots).wires k) (all.each k));
}
  where
    to : (c : ℕ) → Contains n.changes.numbers.items c ⊎ Contains m.slots.released.items c
        → Contains n.changes.numbers.items c ⊎ IsReleased (slots_state n.slots) written c
    to c (inl before) = inl before
    to c (inr among) = inr ((all.listed c).0 among)

    from : (c : ℕ) → Contains n.changes.numbers.items c ⊎ IsReleased (slots_state n.slots) written c
        → Contains m.changes.numbers.items c
    from c (inl before) = (lists c).1 (inl before)
    from c (inr is) = (lists c).1 (inr ((all.listed c).1 is))

-- ---- what is held back

pub all_held_back : (n : Noted) → IsNoted n → AllHeldBack (slots_state n.slots)
all_held_back n noted c wire is =
    let its = slot_of (get n.slots.slots c) wire is in
    let same : its.0.wire ≡ wire = same_some its.0.wire wire (sym (ap wire_of its.1) ∙ is) in
    subst (λ (t : Traffic). HoldsBack n.slots.written t.behind) same
    (holds_back n.slots.written its.0.wire.behind (noted.sound.held_back c its.0 its.1))
  where
    same_some : (x y : Traffic) → Some x ≡ Some y → x ≡ y
    same_some x y is = cc

-- ---- at first, and after a refusal

pub empty_noted : (s : Slots) (c : ChangeList) (written : ℕ) → IsSoundSlots s → IsChanges c
    → slots_state s ≡ none_open written → IsNoted (record { slots = s; changes = c })
empty_noted s c written sound changes none = record {
  sound = sound;
  changes = changes;
  room = λ k past. wires_same (none_open written) (slots_state s) none k;
}

pub empty_tally : (s : Slots) (c : ChangeList) (written : ℕ) → slots_state s ≡ none_open written
    → c.numbers.items ≡ [] → tally_of (record { slots = s; changes = c }) ≡ record {
      changed = [];
      unread =
          0;
    }
empty_tally s c written none numbers =
    let nothing : unread_of s ≡ 0 = up_to unread_count (wires_at (get s.slots)) 0 s.slots.room
    (λ k past. wires_same (none_open written) (slots_state s) none k) (omega arith) in
    ap (λ (l : List ℕ). record { changed = l; unread = unread_of s }) numbers
    ∙ ap (λ u. record { changed = []; unread = u }) nothing

pub always_err : {A E : Type 0} (r : Result A E) (P : Type 0) → P → OnErr r P
always_err (Ok x) P is = tt
always_err (Err e) P is = is
