-- An insertion into the map is one into its set; what is there is not refused.
use Rattle.std.proofs.Common.{sym, ap, ◌∙◌, is_some}
use Rattle.std.proofs.lemmas.Bool.{false≢true}
use Rattle.std.specs.FinSet.{contains, insert}
use Rattle.rv_due.specs.Deadlines.{Deadlines}
use Rattle.rv_due.proofs.Kept.{contains_kept, set_inserted}
use Rattle.rv_due.proofs.due.Due.add.Goals as goal

pub returns-clause-ok : goal.returns-clause-ok
returns-clause-ok c =
    set_inserted c.self.inside.deadlines c.insert.new.self _ c.in_ok-insert.ensures.updates
    ∙ ap (λ (s : Deadlines). insert s (c.args.moment, c.args.place)) c.self.view_is

pub returns-in_err-insert-clause-there : goal.returns-in_err-insert-clause-there
returns-in_err-insert-clause-there c = λ there.
    absurd (false≢true (sym (ap is_some c.in_err-insert.ensures.absent)
    ∙ sym (contains_kept c.self.inside.deadlines (c.args.moment, c.args.place))
    ∙ ap (λ (s : Deadlines). contains s (c.args.moment, c.args.place)) c.self.view_is ∙ there))
