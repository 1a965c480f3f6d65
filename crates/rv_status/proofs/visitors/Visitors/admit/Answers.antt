-- The new one stands in front of the last 31.
use Rattle.std.proofs.Common.{◌∙◌, ◌∷◌, ap, List}
use Rattle.rv_status.specs.declared.visitor.Visitor.{Visitor}
use Rattle.rv_status.proofs.visitors.Visitors.admit.Goals as goal

pub returns : goal.returns
returns g c = record {
  visitor = c.new-visitor.result;
  fresh = c.new-visitor.ensures;
  first = c.push_front_reserved.ensures.items
      ∙ ap (λ (l : List (Visitor g.row.S.Denot)). c.new-visitor.result ∷ l) c.make_way.ensures.left;
}
