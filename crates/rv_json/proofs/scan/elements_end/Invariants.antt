-- The texts so far, each with its comma, stand in front of the rest.
use Rattle.std.proofs.Common.{◌≡◌, ℕ, ◌-◌, ◌≤◌, ◌++◌, List, length, drop}
use Rattle.rv_json.proofs.ListText.{each_quoted}
use Rattle.rv_json.proofs.scan.elements_end.Given as goal

abbrev pub invariant-texts : goal.invariant-texts
invariant-texts l =
    (texts : List (List ℕ)) × (drop l.fn.first l.fn.text ≡ each_quoted texts ++ drop l.at l.fn.text)
    × (length texts ≡ l.count) × (l.fn.first ≤ l.at)

abbrev pub decreases-texts : goal.decreases-texts
decreases-texts l = 16 - l.count
