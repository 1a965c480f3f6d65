-- The room of a list: for how many more, and for how many in all.
use Rattle.std.specs.Prelude.{◌≡◌, ℕ, ◌+◌, ◌-◌, ◌≤◌}
use Rattle.std.specs.VecDeque.{deque_capacity, deque_len}
use Rattle.std.specs.declared.collections.VecDeque.{VecDeque}

pub record Room : Type 0 where
  pub spare : ℕ
  pub capacity : ℕ

-- the room of a deque
abbrev pub room_in : {X Z : Type 0} → VecDeque X Z → Room
room_in list = record { spare = deque_capacity list - deque_len list; capacity = deque_capacity list }

-- no memory was taken or given back, and there is room for as many more as before, or for more
pub record KeepsRoom (old new : Room) : Type 0 where
  pub spare : old.spare ≤ new.spare
  pub capacity : new.capacity ≡ old.capacity

-- one more is there, in the room that was there
pub record UsesRoom (old new : Room) : Type 0 where
  pub spare : old.spare ≡ new.spare + 1
  pub capacity : new.capacity ≡ old.capacity

-- memory was taken, or none: the room grew by as much as the whole
pub record GrowsRoom (old new : Room) : Type 0 where
  pub spare : old.spare ≤ new.spare
  pub capacity : new.capacity + old.spare ≡ old.capacity + new.spare
