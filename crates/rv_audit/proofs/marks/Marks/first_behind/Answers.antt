use Rattle.rv_audit.proofs.Words.{IfNone, IfSome, ℕ, sym, subst, NoneBehind}
use Rattle.std.specs.declared.ops.Bound.{Bound}
use Rattle.std.specs.declared.ops.Bound.TheVariants.{Unbounded}
use Rattle.std.specs.BTreeSet.{IsKeyRangeOf}
use Rattle.rv_audit.specs.Marks.{IsFirstBehind}
use Rattle.rv_audit.proofs.Pairs.{found, nothing_found, pair_cmp}
use Rattle.rv_audit.proofs.marks.Marks.first_behind.Goals as goal

pub returns-in_err-least-clause-none : goal.returns-in_err-least-clause-none
returns-in_err-least-clause-none c =
    let range = subst (λ (from : Bound (ℕ × ℕ)). IsKeyRangeOf pair_cmp from Unbounded c.args.self.now.marks
    c.range.result) c.bound_behind.ensures (c.range.ensures.in_range tt) in
    subst (λ o. IfNone o (NoneBehind c.args.self.now c.args.number c.args.last)) (sym c.from_residual.ensures)
    (nothing_found c.args.self.now.marks c.args.number c.args.last c.range.result range
    c.in_err-least.ensures.steps.0)

pub returns-clause-some : goal.returns-clause-some
returns-clause-some c =
    let range = subst (λ (from : Bound (ℕ × ℕ)). IsKeyRangeOf pair_cmp from Unbounded c.args.self.now.marks
    c.range.result) c.bound_behind.ensures (c.range.ensures.in_range tt) in
    subst (λ o. IfSome o (IsFirstBehind c.args.self.now c.args.number c.args.last)) (sym c.then_some.ensures)
    (found c.args.self.now.marks c.args.number c.args.last c.range.result c.next.new.self
    c.in_ok-least.field-0.now range c.in_ok-least.ensures.steps).0

pub returns-clause-none : goal.returns-clause-none
returns-clause-none c =
    let range = subst (λ (from : Bound (ℕ × ℕ)). IsKeyRangeOf pair_cmp from Unbounded c.args.self.now.marks
    c.range.result) c.bound_behind.ensures (c.range.ensures.in_range tt) in
    subst (λ o. IfNone o (NoneBehind c.args.self.now c.args.number c.args.last)) (sym c.then_some.ensures)
    (found c.args.self.now.marks c.args.number c.args.last c.range.result c.next.new.self
    c.in_ok-least.field-0.now range c.in_ok-least.ensures.steps).1
