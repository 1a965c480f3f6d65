-- The items that are left bring the text that all bring.
use Rattle.std.proofs.Common.{◌≡◌, ◌++◌, drop, string_bytes}
use Rattle.rv_commands.specs.Printed.{ended_items}
use Rattle.rv_commands.proofs.reply.items_text.Given as goal

abbrev pub invariant-loop-item : goal.invariant-loop-item
invariant-loop-item l =
    string_bytes l.text ++ ended_items (drop l.item-index l.items) l.end ≡ ended_items l.items l.end
