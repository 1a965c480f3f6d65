-- What was passed is plain.
use Rattle.std.proofs.Common.{◌≡◌, length, ◌-◌, ◌≤◌, take, drop}
use Rattle.json.specs.Print.{escape}
use Rattle.rv_json.proofs.scan.plain_end.Given as goal

abbrev pub invariant-plain : goal.invariant-plain
invariant-plain l =
    (l.from ≤ l.at) × (l.at ≤ length l.fn.text)
    × (escape (take (l.at - l.from) (drop l.from l.fn.text)) ≡ take (l.at - l.from) (drop l.from l.fn.text))

abbrev pub decreases-plain : goal.decreases-plain
decreases-plain l = length l.bytes - l.at
