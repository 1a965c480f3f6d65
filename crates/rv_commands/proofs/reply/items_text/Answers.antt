-- Each step adds the first of the items that are left.
use Rattle.std.proofs.Common.{◌∙◌, ◌++◌, List, ap, string_bytes, ℕ}
use Rattle.rv_commands.proofs.Items.{one_more}
use Rattle.rv_commands.proofs.reply.items_text.Goals as goal

pub loop-item-preserved : goal.loop-item-preserved
loop-item-preserved c =
    let end = c.args.end.now in
    let first = c.in_ok-push_str.ensures.bytes ∙ ap (λ (t : List ℕ). string_bytes c.loop-item.text ++ t)
    (c.as_str.ensures.text ∙ c.item-item.is) in
    one_more (string_bytes c.loop-item.text) _ end _ c.args.items.now c.loop-item.item-index _
    c.loop-item-test.true
    (c.in_ok-push_str-2.ensures.bytes ∙ ap (λ (t : List ℕ). t ++ end) first) c.loop-item.invariant
