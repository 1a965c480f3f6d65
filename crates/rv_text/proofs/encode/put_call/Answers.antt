-- Each member stands after those before it, and all in byte order.
use Rattle.std.proofs.Common.{sym, ap, ◌∙◌}
use Rattle.std.proofs.lemmas.Result.{on_ok_weaker}
use Rattle.serde_json.specs.Data.{no_members}
use Rattle.rv_json.specs.Writing.{text_with}
use Rattle.rv_text.specs.Calls.{nature_of}
use Rattle.rv_text.specs.Members.{members_of}
use Rattle.rv_text.specs.Rows.{nature_row}
use Rattle.rv_text.proofs.Ordered.{call_ordered, same_nature}
use Rattle.rv_text.proofs.encode.put_call.Goals as goal

pub returns : goal.returns
returns c =
    let nature = nature_of c.args.call.now in
    let told = c.nature-nature.ensures in
    let ordered = sym (call_ordered _ _ _ _ _)
    ∙ ap (λ n. members_of (nature_row n))
    (same_nature nature _ _ _ _ _ told.word told.side told.wait told.drains told.item) in
    on_ok_weaker c.put_wait.result
    (λ last. last no_members ∙ (c.in_ok-put_queue.ensures _ ∙ (c.in_ok-put_max.ensures _
    ∙ (c.in_ok-put_item.ensures _ ∙ (c.in_ok-put_exchanger.ensures _ ∙ (c.in_ok-put_text.ensures _
    ∙ ap (λ ms. text_with ms c.args.body.now) ordered)))))) c.put_wait.ensures
