-- The items before the loop's own were copied.
use Rattle.std.proofs.Common.{◌≡◌, take}
use Rattle.rv_json.proofs.items.Items.copy.Given as goal

abbrev pub invariant-loop-item : goal.invariant-loop-item
invariant-loop-item l = l.items.items ≡ take l.item-index l.item-items
