-- Members in the byte order of their names.
use Rattle.std.specs.Prelude.{◌≡◌, ℕ, List}
use Rattle.std.specs.Ordering.{nat_cmp}
use Rattle.std.specs.Cmp.Lexicographic.{slice_cmp}
use Rattle.serde_json.specs.Data.{Members, no_members, member}

-- each name is above k
abbrev pub AreAbove : List ℕ → Members → Type 0
AreAbove k no_members = Unit {0}
AreAbove k (member l e ms) = (slice_cmp nat_cmp k l ≡ nat_cmp 0 1) × AreAbove k ms

abbrev pub IsSorted : Members → Type 0
IsSorted no_members = Unit {0}
IsSorted (member l e ms) = AreAbove l ms × IsSorted ms
