-- Fewer are pending.
use Rattle.std.proofs.Common.{◌≡◌, ◌∙◌, length, refl, rules, sym}
use Rattle.std.proofs.lemmas.List.{nil_from_length}
use Rattle.rv_traffic.proofs.OfLinks.Slots.{less_pending}
use Rattle.rv_traffic.proofs.links.slot.advance_slot.Goals as goal

pub returns-then-is_empty : goal.returns-then-is_empty
returns-then-is_empty g c =
    let none : length c.advance.new.self.items ≡ 0 = search rules in
    less_pending c.args.slot.now c.in-Some.link _ c.args.count c.in-Some.is
    (record {
      stream = refl;
      pending = c.new.ensures.items ∙ sym (nil_from_length c.advance.new.self.items none)
          ∙ c.advance.ensures.items;
      readable = refl;
      writable = refl;
      heard = refl;
      moved = refl;
      sent = refl;
    })

pub returns-else-is_empty : goal.returns-else-is_empty
returns-else-is_empty g c =
    less_pending c.args.slot.now c.in-Some.link _ c.args.count c.in-Some.is
    (record {
      stream = refl;
      pending = c.advance.ensures.items;
      readable = refl;
      writable = refl;
      heard = refl;
      moved = refl;
      sent = refl;
    })
