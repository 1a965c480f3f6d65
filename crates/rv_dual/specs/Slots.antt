-- A line of slots: those that wait, in rising order, and marks where one was withdrawn.
use Rattle.std.specs.Prelude.{◌≡◌, ◌≢◌, ◌+◌, ◌-◌, ◌<◌, ◌≤◌, ℕ, Bool, true, false, List}
use Rattle.std.specs.Prelude.{map, length, slice_get, Option, Some, None}
use Rattle.std.specs.List.{All, AllPairs, filter_map}
use Rattle.rv_dual.specs.Room.{Room}
use Rattle.rv_dual.specs.declared.slot.Slot.{Slot}
use Rattle.rv_dual.specs.declared.slot.Slot.TheVariants.{Holds, Withdrawn}

-- what callers see of a line: those that wait, the oldest first, and its room
pub record WaitingLine (X : Type 0) : Type 0 where
  pub waiting : List X
  pub room : Room

module _ {X : Type 0} where
  -- what waits in the slot; nothing where it is marked
  abbrev pub holder : Slot X → Option X
  holder (Holds x) = Some x
  holder (Withdrawn place) = None

  abbrev pub waiting_in : List (Slot X) → List X
  waiting_in slots = filter_map holder slots

  -- whether something waits in the slot
  abbrev pub is_held : Slot X → Bool
  is_held (Holds x) = true
  is_held (Withdrawn place) = false

  -- whether there is a slot, and it is marked
  abbrev pub is_marked : Option (Slot X) → Bool
  is_marked None = false
  is_marked (Some (Holds x)) = false
  is_marked (Some (Withdrawn place)) = true

  -- whether what waits in the slot passes a test
  abbrev pub passes_in : (X → Bool) → Slot X → Bool
  passes_in test (Holds x) = test x
  passes_in test (Withdrawn place) = false

  -- the place of what waits there, or waited
  abbrev pub slot_place : (X → ℕ) → Slot X → ℕ
  slot_place place_of (Holds x) = place_of x
  slot_place place_of (Withdrawn place) = place

  abbrev pub first_slot : List (Slot X) → Option (Slot X)
  first_slot slots = slice_get slots 0

  abbrev pub last_slot : List (Slot X) → Option (Slot X)
  last_slot slots = slice_get slots (length slots - 1)

  -- the first slot, if there is one, isn't marked
  abbrev pub FirstHolds : List (Slot X) → Type 0
  FirstHolds slots = is_marked (first_slot slots) ≡ false

  -- nor is the last
  abbrev pub LastHolds : List (Slot X) → Type 0
  LastHolds slots = is_marked (last_slot slots) ≡ false

  -- their places, in their order
  abbrev pub slot_places : (X → ℕ) → List (Slot X) → List ℕ
  slot_places place_of slots = map (slot_place place_of) slots

  -- the places rise, marks included
  abbrev pub Rises : (X → ℕ) → List (Slot X) → Type 0
  Rises place_of slots = AllPairs ◌<◌ (slot_places place_of slots)

  -- no slot is of the place
  abbrev pub NoSlotAt : (X → ℕ) → ℕ → List (Slot X) → Type 0
  NoSlotAt place_of place slots = All (λ k. k ≢ place) (slot_places place_of slots)

  -- a line whose places rise, with a mark at neither end and no more marks than those that wait, and the
  -- number of these
  pub record IsSlotLine (place_of : X → ℕ) (slots : List (Slot X)) (count : ℕ) : Type 0 where
    pub rises : Rises place_of slots
    pub first : FirstHolds slots
    pub last : LastHolds slots
    pub counted : count ≡ length (waiting_in slots)
    pub few : length slots ≤ count + count
