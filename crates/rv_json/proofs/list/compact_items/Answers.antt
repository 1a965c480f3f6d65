-- An empty list has no item.
use Rattle.std.proofs.Common.{[], sym, ◌∙◌, arith}
use Rattle.std.proofs.lemmas.Slice.Eq.{bytes_eq-Decides}
use Rattle.rv_json.proofs.ListText.{compact_read}
use Rattle.rv_json.proofs.list.compact_items.Goals as goal

pub returns-then-eq : goal.returns-then-eq
returns-then-eq c =
    let is = (bytes_eq-Decides c.args.text.now _).0 (sym c.eq.ensures ∙ c.if-eq.true) in
    c.new-items.ensures ∙ sym (compact_read c.args.text.now [] (omega arith) is)
