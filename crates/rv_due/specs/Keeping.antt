-- The map that the deadlines are kept in, with nothing at each.
use Rattle.std.specs.BTreeMap.{BTreeMap, keys}
use Rattle.std.specs.FinSet.{from_list}
use Rattle.rv_due.specs.Deadlines.{Deadline, Deadlines}

-- the set of the keys of the map
abbrev pub set_kept : BTreeMap Deadline (Unit {0}) → Deadlines
set_kept kept = from_list (keys kept)
