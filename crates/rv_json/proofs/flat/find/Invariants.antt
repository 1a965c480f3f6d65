-- None of the members after these has the name.
use Rattle.std.proofs.Common.{◌≡◌, ◌≤◌, length, take}
use Rattle.serde_json.specs.Find.{get_member}
use Rattle.rv_json.specs.Flat.{flat_members}
use Rattle.rv_json.proofs.flat.find.Given as goal

abbrev pub invariant-places : goal.invariant-places
invariant-places l =
    (get_member l.name (flat_members l.fields) ≡ get_member l.name (flat_members (take l.left l.fields)))
    × (l.left ≤ length l.fields)

abbrev pub decreases-places : goal.decreases-places
decreases-places l = l.left
