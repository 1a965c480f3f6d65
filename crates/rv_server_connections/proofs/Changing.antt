-- What holds of all slots still does where one changes.
use Rattle.std.proofs.Common.{◌≡◌, ◌≢◌, ◌<◌, ◌≤◌, ◌+◌, ◌∙◌, ℕ, Option, None, Some, arith, refl, sym, ap}
use Rattle.std.proofs.Common.{inl, inr, List, slice_set}
use Rattle.std.proofs.lemmas.Bool.{cases_eq}
use Rattle.std.proofs.lemmas.List.{set-get_or}
use Rattle.rv_server_connections.specs.Table.{SetsSlot, TableState, get, with_slot}
use Rattle.rv_server_connections.specs.connection.Traffic.{held_count}
use Rattle.rv_server_connections.specs.declared.subscribers.pairs.Pairs.{Pairs}
use Rattle.rv_server_connections.specs.subscribers.Pairs.{stands_under}
use Rattle.rv_server_connections.specs.declared.table.WireSlot.{WireSlot}
use Rattle.rv_server_connections.specs.Connections.{count_at}
use Rattle.rv_server_connections.specs.Fields.{AreHeld, IsIndexOf, Remarks, has_mark, is_slot_marked}
use Rattle.rv_server_connections.specs.Fields.{wire_of, wires_at}
use Rattle.rv_server_connections.proofs.Places.{place_within, set_place}
use Rattle.rv_server_connections.proofs.Totals.{AllBelow, part_of, totals}

abbrev pub Table : Type 0
Table = ℕ → Option WireSlot

abbrev pub Each : (WireSlot → Type 0) → Table → Type 0
Each P slots = (connection : ℕ) (slot : WireSlot) → slots connection ≡ Some slot → P slot

pub each_set : (P : WireSlot → Type 0) (f g : Table) (c : ℕ) (o : Option WireSlot) → SetsSlot f c o g
    → Each P f
    → ((slot : WireSlot) → o ≡ Some slot → P slot) → Each P g
each_set P f g c o sets each own k slot there = elim (cases_eq k c) [
  | inl same ↦ own slot (sym sets.own ∙ ap g (sym same) ∙ there)
  | inr apart ↦ each k slot (sym (sets.others k apart) ∙ there)
]

pub below_set : (f g : Table) (c room more : ℕ) (o : Option WireSlot) → SetsSlot f c o g
    → ((k : ℕ) → room ≤ k → f k ≡ None) → room ≤ more → c < more → (k : ℕ) → more ≤ k → g k ≡ None
below_set f g c room more o sets below grows within k past =
    sets.others k (λ is. absurd (omega (arith, is, within, past))) ∙ below k (omega arith)

-- a slot that is taken is below the room
pub within_room : (f : Table) (c room : ℕ) (slot : WireSlot) → ((k : ℕ) → room ≤ k → f k ≡ None)
    → f c ≡ Some slot → c < room
within_room f c room slot below there = not_past c room (λ past. some_none (sym there ∙ below c past))
  where
    not_past : (a b : ℕ) → (b ≤ a → ⊥) → a < b
    not_past = grind arith

    some_none : Some slot ≡ None → ⊥
    some_none is = cc

pub index_set : (p q : Pairs) (f g : Table) (c : ℕ) (o : Option WireSlot) (mark : Option ℕ) → SetsSlot f c o g
    → IsIndexOf p f → Remarks p c mark q → ((e : ℕ) → has_mark mark e ≡ is_slot_marked o e) → IsIndexOf q g
index_set p q f g c o mark sets was moved marks e k = elim (cases_eq k c) [
  | inl same ↦
      ap (λ n. stands_under q e n) same ∙ moved.own e ∙ marks e
      ∙ ap (λ (s : Option WireSlot). is_slot_marked s e) (sym sets.own)
      ∙ ap (λ n. is_slot_marked (g n) e) (sym same)
  | inr apart ↦ moved.others e k apart ∙ was e k
      ∙ ap (λ (s : Option WireSlot). is_slot_marked s e) (sym (sets.others k apart))
]

-- where the index stays, the mark has to
pub index_stays : (p : Pairs) (f g : Table) (c : ℕ) (o : Option WireSlot) → SetsSlot f c o g → IsIndexOf p f
    → ((e : ℕ) → is_slot_marked (f c) e ≡ is_slot_marked o e) → IsIndexOf p g
index_stays p f g c o sets was marks e k = elim (cases_eq k c) [
  | inl same ↦ was e k ∙ ap (λ n. is_slot_marked (f n) e) same ∙ marks e
      ∙ ap (λ (s : Option WireSlot). is_slot_marked s e) (sym sets.own)
      ∙ ap (λ n. is_slot_marked (g n) e) (sym same)
  | inr apart ↦ was e k ∙ ap (λ (s : Option WireSlot). is_slot_marked s e) (sym (sets.others k apart))
]

pub wires_set : (f g : Table) (c : ℕ) (o : Option WireSlot) → SetsSlot f c o g → (k : ℕ) → k ≢ c
    → wires_at g k ≡ wires_at f k
wires_set f g c o sets k apart = ap wire_of (sets.others k apart)

pub none_below : (f : Table) (room : ℕ) → ((k : ℕ) → room ≤ k → f k ≡ None) → AllBelow (wires_at f) room
none_below f room below k past = ap wire_of (below k past)

pub held_set : (f g : Table) (c room more total after : ℕ) (o : Option WireSlot) → SetsSlot f c o g
    → AreHeld f room total → room ≤ more → c < more
    → after + count_at held_count (wires_at f c) ≡ total + count_at held_count (wire_of o)
    → AreHeld g more after
held_set f g c room more total after o sets held grows within counts =
    let below = below_set f g c room more o sets held.all_below grows within in
    let sum = totals held_count (wires_at f) (wires_at g) c room more (none_below f room held.all_below)
    (none_below g more below) (wires_set f g c o sets) in
    let own : count_at held_count (wires_at g c) ≡ count_at held_count (wire_of o) =
    ap (λ (s : Option WireSlot). count_at held_count (wire_of s)) sets.own in
    record { all_below = below; total_is = omega (arith, sum, own, held.total_is, counts) }

pub held_part : (f : Table) (c room total : ℕ) → AreHeld f room total
    → count_at held_count (wires_at f c) ≤ total
held_part f c room total held =
    omega (arith, part_of held_count (wires_at f) c room (none_below f room held.all_below), held.total_is)

-- ---- a write to a slot

pub written : (s : TableState) (c : ℕ) (slot new : WireSlot) → get s c ≡ Some slot
    → SetsSlot (get s) c (Some new) (get (with_slot s c new))
written s c slot new there =
    set_place s (with_slot s c new) c (Some new) (place_within s.places c slot there) refl

pub unwritten : (s : TableState) (c : ℕ) (slot : WireSlot) → get s c ≡ Some slot → with_slot s c slot ≡ s
unwritten s c slot there =
    ap (λ (o : Option WireSlot). record s { places = slice_set s.places c o }) (sym there)
    ∙ ap (λ (l : List (Option WireSlot)). record s { places = l }) (set-get_or s.places c None)
