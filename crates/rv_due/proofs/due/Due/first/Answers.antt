-- The first key of the map is the least of its set.
use Rattle.std.proofs.Common.{◌≤◌, ℕ, subst, ap, arith, is_some}
use Rattle.std.proofs.lemmas.Bool.{false≢true}
use Rattle.rv_due.specs.Deadlines.{AllAbove, Deadlines, IsLeastUntil}
use Rattle.rv_due.proofs.Kept.{bound_is_least, if_none, none_above_empty}
use Rattle.rv_due.proofs.due.Due.first.Goals as goal

pub returns-in_err-first_key_value-clause-none : goal.returns-in_err-first_key_value-clause-none
returns-in_err-first_key_value-clause-none c =
    if_none c.from_residual.result (subst (λ (s : Deadlines). (moment : ℕ) → AllAbove s moment) c.self.view_is
    (λ moment. none_above_empty c.self.inside.deadlines moment
    (λ more. false≢true (c.in_err-first_key_value.ensures.variant.1 more))))

pub returns-clause-least : goal.returns-clause-least
returns-clause-least c =
    let d = c.in_ok-first_key_value.field-0.0.now in
    subst (λ (s : Deadlines). IsLeastUntil s d.0 d) c.self.view_is
    (bound_is_least c.self.inside.deadlines d d.0 c.in_ok-first_key_value.ensures.least
    (ap is_some c.in_ok-first_key_value.ensures.value) (omega arith))
