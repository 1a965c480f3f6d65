-- A set of deadlines, and which of them is the least.
use Rattle.std.specs.Prelude.{◌≡◌, ◌≢◌, ◌⊎◌, ◌<◌, ◌≤◌, ℕ, true}
use Rattle.std.specs.declared.cmp.Ordering.{Ordering}
use Rattle.std.specs.Ordering.{nat_cmp, ordering_then}
use Rattle.std.specs.Coded.{Coded, coded×, coded_ℕ}
use Rattle.std.specs.FinSet.{FinSet, contains}
use Rattle.std.specs.FinSet as set

-- a moment, and the place of the request whose time is over then
abbrev pub Deadline : Type 0
Deadline = ℕ × ℕ

-- by moments, and at one moment by places
abbrev pub by_moment : Deadline → Deadline → Ordering
by_moment a b = ordering_then (nat_cmp a.0 b.0) (nat_cmp a.1 b.1)

abbrev pub Deadlines : Type 0
Deadlines = FinSet by_moment

abbrev pub deadlines_code : Coded Deadlines
deadlines_code = set.code (coded× coded_ℕ coded_ℕ)

-- one deadline is less than another: its moment is, or at one moment its place
abbrev pub Precedes : Deadline → Deadline → Type 0
Precedes a b = (a.0 < b.0) ⊎ ((a.0 ≡ b.0) × (a.1 < b.1))

-- the deadline is in the set and due at this moment, and all others there are greater
pub record IsLeastUntil (deadlines : Deadlines) (now : ℕ) (deadline : Deadline) : Type 0 where
  pub there : contains deadlines deadline ≡ true
  pub due : deadline.0 ≤ now
  pub least : (other : Deadline) → contains deadlines other ≡ true → other ≢ deadline
      → Precedes deadline other

-- no deadline of the set is due at this moment
abbrev pub AllAbove : Deadlines → ℕ → Type 0
AllAbove deadlines now = (deadline : Deadline) → contains deadlines deadline ≡ true → now < deadline.0
