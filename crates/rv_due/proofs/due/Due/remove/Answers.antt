-- What the map had at the key tells whether the set had it.
use Rattle.std.proofs.Common.{sym, ap, ◌∙◌, is_some}
use Rattle.std.specs.FinSet.{contains}
use Rattle.std.specs.FinSet as set
use Rattle.rv_due.specs.Deadlines.{Deadlines}
use Rattle.rv_due.proofs.Kept.{contains_kept, set_removed}
use Rattle.rv_due.proofs.due.Due.remove.Goals as goal

pub returns-clause-was_there : goal.returns-clause-was_there
returns-clause-was_there c =
    c.is_some.ensures ∙ ap is_some c.remove.ensures.value ∙ sym (contains_kept c.self.inside.deadlines
    (c.args.moment, c.args.place))
    ∙ ap (λ (s : Deadlines). contains s (c.args.moment, c.args.place)) c.self.view_is

pub returns-clause-taken : goal.returns-clause-taken
returns-clause-taken c =
    set_removed c.self.inside.deadlines c.remove.new.self _ c.remove.ensures.updates
    ∙ ap (λ (s : Deadlines). set.remove s (c.args.moment, c.args.place)) c.self.view_is
