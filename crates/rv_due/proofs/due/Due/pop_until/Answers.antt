-- The first key of the map is the least of its set.
use Rattle.std.proofs.Common.{subst, ap, ◌∙◌, arith, is_some}
use Rattle.std.proofs.lemmas.Bool.{false≢true}
use Rattle.std.specs.FinSet as set
use Rattle.rv_due.specs.Deadlines.{AllAbove, Deadlines, IsLeastUntil}
use Rattle.rv_due.proofs.Kept.{all_above_bound, bound_is_least, if_none, none_above_empty, set_removed}
use Rattle.rv_due.proofs.due.Due.pop_until.Goals as goal

pub returns-in_err-least-clause-none_due : goal.returns-in_err-least-clause-none_due
returns-in_err-least-clause-none_due c =
    if_none c.from_residual.result (subst (λ (s : Deadlines). AllAbove s c.args.now) c.self.view_is
    (none_above_empty c.self.inside.deadlines c.args.now (λ more. false≢true (c.in_err-least.ensures.variant.1
    more))))

pub returns-then-now-least-clause-none_due : goal.returns-then-now-least-clause-none_due
returns-then-now-least-clause-none_due c =
    subst (λ (s : Deadlines). AllAbove s c.args.now) c.self.view_is
    (all_above_bound c.self.inside.deadlines c.in_ok-least.field-0.0.now c.args.now
    c.in_ok-least.ensures.least c.if-now-least.true)

pub returns-clause-least : goal.returns-clause-least
returns-clause-least c =
    subst (λ (s : Deadlines). IsLeastUntil s c.args.now c.in_ok-least.field-0.0.now) c.self.view_is
    (bound_is_least c.self.inside.deadlines c.in_ok-least.field-0.0.now c.args.now c.in_ok-least.ensures.least
    (ap is_some c.in_ok-least.ensures.value) (omega (arith, c.if-now-least.false)))

pub returns-clause-taken : goal.returns-clause-taken
returns-clause-taken c =
    set_removed c.self.inside.deadlines c.remove.new.self _ c.remove.ensures.updates
    ∙ ap (λ (s : Deadlines). set.remove s c.in_ok-least.field-0.0.now) c.self.view_is
