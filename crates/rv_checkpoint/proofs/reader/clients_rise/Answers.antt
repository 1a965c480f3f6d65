-- By the tests of neighbours.
use Rattle.std.proofs.Common.{rules, ℕ}
use Rattle.std.specs.Prelude.{nat_lt}
use Rattle.std.proofs.lemmas.List.Sorted.{answers_always}
use Rattle.rv_account.specs.state.State.{ClientState}
use Rattle.rv_account.proofs.OfState.Resumed.Ordered.{rises_by}
use Rattle.rv_checkpoint.proofs.reader.clients_rise.Goals as goal

pub returns : goal.returns
returns c =
    rises_by (λ (e : ℕ × ClientState). e.0) c.args.clients.now c.is_sorted_by.result
    (c.is_sorted_by.ensures.cases (λ x y. nat_lt x.0 y.0) (answers_always _ _ _
    (λ f a r h called. search rules)))
