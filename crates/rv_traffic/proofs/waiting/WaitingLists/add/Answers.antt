-- One more is listed.
use Rattle.std.proofs.Common.{ℕ, refl, subst}
use Rattle.rv_engine.specs.Handing.{AddsLooks}
use Rattle.std.proofs.Common.{◌∷◌, []}
use Rattle.rv_traffic.proofs.waiting.WaitingLists.add.Goals as goal

pub returns : goal.returns
returns c = record {
  next = subst (λ (room : ℕ). AddsLooks room c.args.self.now.next.numbers.items (c.args.number ∷ [])
      c.add.new.self.numbers.items) c.args.self.now.same_room c.add.ensures.adds;
  due = refl;
  room = refl;
}
