-- Which line of the step decides for a request.
use Rattle.std.proofs.Common.{refl}
use Rattle.rv_session.specs.declared.client.LastRequest.TheVariants.{CancelledUnseen, RepliedTo, Waits}
use Rattle.rv_machine.proofs.RequestMoves.{refuses_request, repeats_request, repeated_err, repeated_ok}
use Rattle.rv_machine.proofs.tables.Holdings.request.Goals as goal

pub returns-in-Refused-clause-err : goal.returns-in-Refused-clause-err
returns-in-Refused-clause-err c =
    refuses_request c.args.limits.now c.args.self.now c.args.moment c.args.key c.args.call c.requires.numbered
    c.in-Refused.refusal c.in-Refused.ensures.means

pub returns-in-Waits-clause-ok : goal.returns-in-Waits-clause-ok
returns-in-Waits-clause-ok c =
    repeated_ok c.args.limits.now c.args.self.now c.args.moment c.args.key c.args.call c.requires.numbered
    (Waits c.in-Waits.field-0 c.in-Waits.asked.now) (λ e. cc) c.in-Waits.ensures.means c.in-Waits.asked.now
    refl c.repeat.result c.repeat.ensures.ok

pub returns-in-Waits-clause-err : goal.returns-in-Waits-clause-err
returns-in-Waits-clause-err c =
    repeated_err c.args.limits.now c.args.self.now c.args.moment c.args.key c.args.call c.requires.numbered
    (Waits c.in-Waits.field-0 c.in-Waits.asked.now) (λ e. cc) c.in-Waits.ensures.means c.in-Waits.asked.now
    refl c.repeat.result c.repeat.ensures.err

pub returns-in-Replied-clause-ok : goal.returns-in-Replied-clause-ok
returns-in-Replied-clause-ok c =
    repeated_ok c.args.limits.now c.args.self.now c.args.moment c.args.key c.args.call c.requires.numbered
    (RepliedTo c.in-Replied.asked.now c.in-Replied.field-1.now) (λ e. cc) c.in-Replied.ensures.means
    c.in-Replied.asked.now refl c.repeat-in-Replied.result c.repeat-in-Replied.ensures.ok

pub returns-in-Replied-clause-err : goal.returns-in-Replied-clause-err
returns-in-Replied-clause-err c =
    repeated_err c.args.limits.now c.args.self.now c.args.moment c.args.key c.args.call c.requires.numbered
    (RepliedTo c.in-Replied.asked.now c.in-Replied.field-1.now) (λ e. cc) c.in-Replied.ensures.means
    c.in-Replied.asked.now refl c.repeat-in-Replied.result c.repeat-in-Replied.ensures.err

pub returns-in-CancelledUnseen-clause-ok : goal.returns-in-CancelledUnseen-clause-ok
returns-in-CancelledUnseen-clause-ok c =
    repeats_request c.args.limits.now c.args.self.now c.args.moment c.args.key c.args.call c.requires.numbered
    CancelledUnseen
    (λ e. cc) c.in-CancelledUnseen.ensures.means (λ came is. cc)

pub returns-in-Refused-clause-none : goal.returns-in-Refused-clause-none
returns-in-Refused-clause-none c = λ _. refl

pub returns-in-Refused-clause-refused : goal.returns-in-Refused-clause-refused
returns-in-Refused-clause-refused c = λ _. refl
