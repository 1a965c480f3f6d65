-- The members so far, each with its comma, stand in front of the rest.
use Rattle.std.proofs.Common.{◌≡◌, ◌<◌, ◌-◌, List, ◌∷◌, ◌++◌, length, drop}
use Rattle.rv_json.specs.declared.flat.FlatMember.{FlatMember}
use Rattle.rv_json.specs.Scan.{each_text, FitEach}
use Rattle.rv_json.proofs.pair.object_end.Given as goal

abbrev pub invariant-members : goal.invariant-members
invariant-members l =
    (fields : List FlatMember)
    × (drop l.fn.at l.fn.text ≡ 123 ∷ (each_text fields ++ drop l.place l.fn.text))
    × FitEach fields × (l.fn.at < l.place)

abbrev pub decreases-members : goal.decreases-members
decreases-members l = length l.text - l.place
