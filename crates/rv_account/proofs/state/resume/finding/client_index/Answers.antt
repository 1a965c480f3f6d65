-- The clients rise, so a binary search finds that of a number, or that there is none.
use Rattle.std.proofs.Common.{ℕ, sym, subst, rules}
use Rattle.std.proofs.lemmas.List.Sorted.{answers_always}
use Rattle.rv_account.specs.state.State.{ClientState}
use Rattle.rv_account.specs.state.resume.Checking.{IsFoundAt}
use Rattle.rv_account.proofs.OfState.Resumed.Ordered.{found_by}
use Rattle.rv_account.proofs.state.resume.finding.client_index.Goals as goal

pub returns : goal.returns
returns c =
    let facts = c.binary_search_by_key.ensures in
    let by_number = facts.position (λ (e : ℕ × ClientState). e.0) (answers_always _ _ _
    (λ f a r h called. search rules)) in
    subst (IsFoundAt (λ (e : ℕ × ClientState). e.0) c.args.clients.now c.args.client) (sym c.ok.ensures.value)
    (found_by (λ (e : ℕ × ClientState). e.0) c.args.clients.now c.args.client _ c.requires facts.bound
    by_number)
