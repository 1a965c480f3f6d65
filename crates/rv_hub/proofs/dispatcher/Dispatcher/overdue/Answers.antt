-- It is the first, if it has waited as long as it may.
use Rattle.std.proofs.Common.{IfSome, refl, subst, sym}
use Rattle.rv_hub.specs.dispatcher.Fields.{dispatcher_state}
use Rattle.rv_hub.specs.dispatcher.Going.{IsNextOverdue}
use Rattle.rv_hub.proofs.OfDispatcher.Moments.{late_found}
use Rattle.rv_hub.proofs.dispatcher.Dispatcher.overdue.Goals as goal

pub returns-clause-some : goal.returns-clause-some
returns-clause-some c =
    subst (λ o. IfSome o (IsNextOverdue (dispatcher_state c.args.self.now))) (sym c.then_some.ensures)
    (late_found (dispatcher_state c.args.self.now) c.in_ok-until.until c.in_ok-until.connection _
    c.in_ok-until.ensures.next refl)
