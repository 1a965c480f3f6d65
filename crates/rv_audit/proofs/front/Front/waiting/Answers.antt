use Rattle.rv_audit.proofs.Words.{◌∙◌, ClientWaitsAt, HasWaiting, IfNone, IfSome, none-some}
use Rattle.rv_audit.proofs.Words.{passed_account, sym, subst}
use Rattle.rv_audit.proofs.Saying.{waiting_none, waiting_some, waits_told}
use Rattle.rv_audit.proofs.front.Front.waiting.Goals as goal

pub returns-in_err-place-clause-none : goal.returns-in_err-place-clause-none
returns-in_err-place-clause-none c =
    subst (λ o. IfNone o (HasWaiting (passed_account c.args.self.now).entries c.args.client → ⊥))
    (sym c.from_residual.ensures)
    (λ w. none-some w.place (c.in_err-place.ensures ∙ (waits_told c.args.self.now c.requires c.args.client
    w).0))

pub returns-clause-some : goal.returns-clause-some
returns-clause-some c =
    subst (λ o. IfSome o (ClientWaitsAt (passed_account c.args.self.now).entries c.args.client))
    (sym c.then_some.ensures)
    (waiting_some c.args.self.now c.args.client c.in_ok-place.place c.client.result c.eq.result c.requires
    c.client.ensures c.eq.ensures)

pub returns-clause-none : goal.returns-clause-none
returns-clause-none c =
    subst (λ o. IfNone o (HasWaiting (passed_account c.args.self.now).entries c.args.client → ⊥))
    (sym c.then_some.ensures)
    (waiting_none c.args.self.now c.args.client c.in_ok-place.place c.client.result c.eq.result c.requires
    c.in_ok-place.ensures c.client.ensures c.eq.ensures)
