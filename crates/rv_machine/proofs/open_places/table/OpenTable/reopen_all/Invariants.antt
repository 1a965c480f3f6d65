-- The table is of those that were laid, and after them stand those that are left; the clients stay, and
-- whatever the laid ones stand below is above what was made.
use Rattle.std.proofs.Common.{◌≡◌, ◌++◌, ℕ, true, length}
use Rattle.std.specs.Vec.Iter.{into_iter_items, into_iter_len}
use Rattle.rv_machine.specs.open_places.OpenMap.{StandBelow}
use Rattle.rv_session.specs.ClientOrder.{is_above}
use Rattle.rv_machine.proofs.open_places.table.OpenTable.reopen_all.Given as goal

abbrev pub invariant-loop-opened : goal.invariant-loop-opened
invariant-loop-opened l =
    (l.self ++ into_iter_items l.opened-iterator ≡ l.fn.places.items)
    × (into_iter_len l.opened-iterator ≡ length (into_iter_items l.opened-iterator))
    × (l.claims.table ≡ l.fn.claims.table)
    × ((place : ℕ) → StandBelow l.self place → is_above l.claims.last place ≡ true)
