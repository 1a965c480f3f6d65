-- The first from a number on stands under it, or none does.
use Rattle.std.proofs.Common.{IfNone, IfSome, sym, subst}
use Rattle.rv_server_connections.specs.subscribers.Pairs.{IsLowestUnder, NoneUnder}
use Rattle.rv_server_connections.proofs.OfSubscribers.Ordered.{found, nothing_found}
use Rattle.rv_server_connections.proofs.subscribers.pairs.Pairs.lowest.Goals as goal

pub returns-in_err-least-clause-none : goal.returns-in_err-least-clause-none
returns-in_err-least-clause-none c =
    subst (λ o. IfNone o (NoneUnder c.args.self.now c.args.number)) (sym c.from_residual.ensures)
    (nothing_found c.args.self.now.pairs c.args.number c.range.result (c.range.ensures.in_range tt)
    c.in_err-least.ensures.steps.0)

pub returns-clause-some : goal.returns-clause-some
returns-clause-some c =
    subst (λ o. IfSome o (IsLowestUnder c.args.self.now c.args.number)) (sym c.then_some.ensures)
    (found c.args.self.now.pairs c.args.number c.range.result c.next.new.self c.in_ok-least.field-0.now
    (c.range.ensures.in_range tt) c.in_ok-least.ensures.steps).0

pub returns-clause-none : goal.returns-clause-none
returns-clause-none c =
    subst (λ o. IfNone o (NoneUnder c.args.self.now c.args.number)) (sym c.then_some.ensures)
    (found c.args.self.now.pairs c.args.number c.range.result c.next.new.self c.in_ok-least.field-0.now
    (c.range.ensures.in_range tt) c.in_ok-least.ensures.steps).1
