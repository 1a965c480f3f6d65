-- The range's first entry is the next client.
use Rattle.std.proofs.Common.{ℕ, Bor, sym, ap, ◌∙◌, option_map}
use Rattle.rv_session.specs.declared.client.ClientState.{ClientState}
use Rattle.rv_session.specs.Clients.{ClientStates}
use Rattle.rv_session.specs.ClientOrder.{next_client}
use Rattle.rv_session.proofs.FirstAbove.{next_found}
use Rattle.rv_session.proofs.clients.Clients.next.Goals as goal

pub returns-in_err-client : goal.returns-in_err-client
returns-in_err-client c =
    ap (option_map (λ (p : ℕ × Bor ClientState). (p.0, p.1.now))) c.from_residual.ensures
    ∙ ap (option_map (λ (p : Bor ℕ × Bor ClientState). (p.0.now, p.1.now))) (sym c.in_err-client.was)
    ∙ next_found c.self.inside.clients.entries c.range.result c.next.new.self c.args.after
    c.bound_above.result (λ p. (p.0.now, p.1.now)) c.next.result c.self.invariant.ordered
    c.bound_above.ensures (c.range.ensures.between tt) c.next.ensures.steps
    ∙ ap (λ (t : ClientStates). next_client t.clients c.args.after) c.self.view_is

pub returns : goal.returns
returns c =
    ap (option_map (λ (p : Bor ℕ × Bor ClientState). (p.0.now, p.1.now))) (sym c.in_ok-client.was)
    ∙ next_found c.self.inside.clients.entries c.range.result c.next.new.self c.args.after
    c.bound_above.result (λ p. (p.0.now, p.1.now)) c.next.result c.self.invariant.ordered
    c.bound_above.ensures (c.range.ensures.between tt) c.next.ensures.steps
    ∙ ap (λ (t : ClientStates). next_client t.clients c.args.after) c.self.view_is
