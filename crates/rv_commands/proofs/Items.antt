-- Items that are printed one after another.
use Rattle.std.proofs.Common.{◌≡◌, ◌∙◌, ◌++◌, ◌+◌, ◌<◌, List, ap, append_assoc, drop, length, slice_index_or}
use Rattle.std.proofs.Common.{sym, ℕ}
use Rattle.std.proofs.lemmas.List.{at_drop_more}
use Rattle.rv_commands.specs.Printed.{ended_items}

-- after the first of the items that are left, the others bring the same text
pub one_more : (text next end whole : List ℕ) (items : List (List ℕ)) (i : ℕ) (d : List ℕ) → i < length items
    → next ≡ (text ++ slice_index_or items i d) ++ end → text ++ ended_items (drop i items) end ≡ whole
    → next ++ ended_items (drop (i + 1) items) end ≡ whole
one_more text next end whole items i d here is so_far =
    let item = slice_index_or items i d in
    let rest = ended_items (drop (i + 1) items) end in
    ap (λ (t : List ℕ). t ++ rest) is ∙ ap (λ (t : List ℕ). t ++ rest) (append_assoc text item end)
    ∙ append_assoc text (item ++ end) rest
    ∙ ap (λ (t : List ℕ). text ++ t) (sym (at_drop_more (λ xs. ended_items xs end) items i d here)) ∙ so_far
