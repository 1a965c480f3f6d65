-- The text is the members so far, in front of the rest.
use Rattle.std.proofs.Common.{◌≡◌, ◌≤◌, ◌∷◌, ◌++◌, length, ◌-◌, take, drop}
use Rattle.rv_json.specs.Scan.{each_text, FitEach}
use Rattle.rv_json.proofs.scan.scan_flat.Given as goal

abbrev pub invariant-turns : goal.invariant-turns
invariant-turns l =
    let fields = take l.count l.places in
    (l.fn.text ≡ 123 ∷ (each_text fields ++ drop l.at l.fn.text)) × FitEach fields ×
    (l.count ≤ length l.places)

abbrev pub decreases-turns : goal.decreases-turns
decreases-turns l = length l.places - l.count
