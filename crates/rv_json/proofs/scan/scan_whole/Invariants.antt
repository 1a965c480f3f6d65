-- The digits so far are those of the value, which isn't 0.
use Rattle.std.proofs.Common.{◌≡◌, ◌<◌, ◌≤◌, ◌++◌, length, ◌-◌, drop, decimal}
use Rattle.rv_json.proofs.scan.scan_whole.Given as goal

abbrev pub invariant-digits : goal.invariant-digits
invariant-digits l =
    (l.fn.at < l.end) × (1 ≤ l.value) × (drop l.fn.at l.fn.bytes ≡ decimal l.value ++ drop l.end l.fn.bytes)

abbrev pub decreases-digits : goal.decreases-digits
decreases-digits l = length l.bytes - l.end
