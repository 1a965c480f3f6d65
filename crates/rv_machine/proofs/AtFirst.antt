-- A machine where nothing is open and nobody is known is ready.
use Rattle.std.proofs.Common.{◌≡◌, ◌≤◌, ◌∙◌, ℕ, [], Some, sym, ap, arith, slice_get}
use Rattle.std.specs.FinMap.{FinMap, empty, get, get-empty}
use Rattle.std.specs.Ordering.{nat_cmp}
use Rattle.std.specs.Prelude.{vec_len}
use Rattle.rv_account.specs.rules.Steps.{max_moment}
use Rattle.rv_account.specs.state.State.{ClientState, OpenPlace, client_at}
use Rattle.rv_account.proofs.OfState.Words.{none-some}
use Rattle.rv_machine.specs.declared.tables.Holdings.{Holdings}
use Rattle.rv_account.specs.rules.Reach.{most_known}
use Rattle.rv_machine.specs.Machines.{IsWhole, state_in}
use Rattle.rv_machine.specs.Numbering.{AreNumbered}
use Rattle.rv_machine.specs.open_places.OpenMap.{count_waiting}

module _ (m : Holdings) (none : m.table ≡ []) (nobody : m.clients.clients ≡ empty) where
  nothing : (i : ℕ) (one : OpenPlace) → slice_get m.table i ≡ Some one → ⊥
  nothing i one at = none-some one (ap (λ l. slice_get l i) (sym none) ∙ at)

  unknown : (client : ℕ) (session : ClientState) → client_at (state_in m) client ≡ Some session → ⊥
  unknown client session at =
      none-some session
      (sym (get-empty nat_cmp client) ∙ ap (λ (f : FinMap nat_cmp ClientState). get f client) (sym nobody)
      ∙ at)

  pub first_numbered : AreNumbered (state_in m)
  first_numbered client session at = absurd (unknown client session at)

  none_waits : count_waiting m.table ≡ 0
  none_waits = ap count_waiting none

  pub first_ready : m.moment ≤ max_moment → m.length ≡ 0 → m.clients.most ≡ most_known
      → vec_len m.settled ≡ 0 → IsWhole m
  first_ready time first most listed = record {
    consistent = record {
      rise = λ i j one other less at there. absurd (nothing i one at);
      below = λ i one at. absurd (nothing i one at);
      wait_queues = λ i there w at waits. absurd (nothing i there at);
      lie = λ i there at waits. absurd (nothing i there at);
      clients = λ client session place call at waits. absurd (unknown client session at);
      time = time;
      space = let waits = none_waits in omega arith;
    };
    most = most;
    room = let waits = none_waits in omega arith;
  }
