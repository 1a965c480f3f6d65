-- Which line of the step decides for a cancel.
use Rattle.std.proofs.Common.{refl}
use Rattle.rv_session.specs.declared.client.LastRequest.TheVariants.{CancelledUnseen, RepliedTo}
use Rattle.rv_machine.proofs.CancelMoves.{refuses_cancel, repeats_cancel}
use Rattle.rv_machine.proofs.tables.Holdings.cancel.Goals as goal

pub returns-in-Refused-clause-err : goal.returns-in-Refused-clause-err
returns-in-Refused-clause-err c =
    refuses_cancel c.args.limits.now c.args.self.now c.args.moment c.args.key c.requires.numbered
    c.in-Refused.refusal
    c.in-Refused.ensures.means

pub returns-in-Replied-clause-ok : goal.returns-in-Replied-clause-ok
returns-in-Replied-clause-ok c =
    repeats_cancel c.args.limits.now c.args.self.now c.args.moment c.args.key c.requires.numbered
    (RepliedTo c.in-Replied.field-0.now c.in-Replied.field-1.now) (λ e. cc) refl c.in-Replied.ensures.means

pub returns-in-CancelledUnseen-clause-ok : goal.returns-in-CancelledUnseen-clause-ok
returns-in-CancelledUnseen-clause-ok c =
    repeats_cancel c.args.limits.now c.args.self.now c.args.moment c.args.key c.requires.numbered
    CancelledUnseen (λ e. cc) refl
    c.in-CancelledUnseen.ensures.means

pub returns-in-Waits-clause-ok : goal.returns-in-Waits-clause-ok
returns-in-Waits-clause-ok c = c.end_wait.ensures.moves c.args.limits.now
