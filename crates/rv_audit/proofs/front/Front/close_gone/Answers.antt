use Rattle.rv_audit.proofs.Words.{◌∙◌, ap, sym}
use Rattle.rv_account.specs.state.State.{place_list}
use Rattle.rv_audit.specs.Passed.{closed_by, passed_state}
use Rattle.rv_audit.proofs.Passing.{gone_due, gone_partners, gone_places}
use Rattle.rv_audit.proofs.front.Front.close_gone.Goals as goal

pub returns-in-Tick-clause-closes : goal.returns-in-Tick-clause-closes
returns-in-Tick-clause-closes c = gone_due c.args.self.now _ c.args.entry.now c.requires.front c.in-Tick.is
    c.close_due.ensures.fits c.close_due.ensures.closes

pub returns-in-Arrive-clause-closes : goal.returns-in-Arrive-clause-closes
returns-in-Arrive-clause-closes c = gone_places c.args.self.now _ c.args.entry.now _ c.requires.front
    (c.as_slice.ensures ∙ gone_partners c.args.self.now c.args.entry.now _ _ c.requires.front c.in-Arrive.is
    c.requires.follows) c.close_each.ensures

pub returns-in-Hello-clause-closes : goal.returns-in-Hello-clause-closes
returns-in-Hello-clause-closes c = gone_places c.args.self.now _ c.args.entry.now _ c.requires.front
    (sym (ap (λ d. place_list (closed_by (passed_state c.args.self.now) c.args.entry.now.moment d))
    c.in-Hello.is)) c.close_waiting.ensures.closes

pub returns-in-Cancel-clause-closes : goal.returns-in-Cancel-clause-closes
returns-in-Cancel-clause-closes c = gone_places c.args.self.now _ c.args.entry.now _ c.requires.front
    (sym (ap (λ d. place_list (closed_by (passed_state c.args.self.now) c.args.entry.now.moment d))
    c.in-Cancel.is)) c.close_waiting-in-Cancel.ensures.closes
