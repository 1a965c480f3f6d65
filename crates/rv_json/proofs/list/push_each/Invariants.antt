-- The items so far, each with its comma, stand in front of the rest.
use Rattle.std.proofs.Common.{◌≡◌, ◌-◌, ◌++◌, length, drop}
use Rattle.rv_json.proofs.ListText.{each_quoted}
use Rattle.rv_json.proofs.list.push_each.Given as goal

abbrev pub invariant-texts : goal.invariant-texts
invariant-texts l = (drop 1 l.fn.text ≡ each_quoted l.items ++ drop l.at l.fn.text)
    × (length l.items ≡ l.count)

abbrev pub decreases-texts : goal.decreases-texts
decreases-texts l = 16 - l.count
