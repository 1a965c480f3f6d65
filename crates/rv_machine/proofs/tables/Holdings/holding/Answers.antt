-- The parts of a state to resume from are those that tables are made of.
use Rattle.std.proofs.Common.{◌≡◌, ◌≤◌, ◌∙◌, ℕ, List, arith, ap, sym, subst}
use Rattle.std.specs.FinMap.{FinMap, len}
use Rattle.std.specs.Ordering.{nat_cmp}
use Rattle.rv_machine.specs.open_places.Reopening.{MayResume}
use Rattle.rv_account.specs.state.resume.Resuming.{most_resumed_clients}
use Rattle.rv_account.proofs.OfState.Resumed.MapOf.{map_long}
use Rattle.rv_session.specs.Clients.{ClientStates}
use Rattle.rv_account.specs.state.State.{ClientState, OpenPlace, State}
use Rattle.rv_machine.specs.Machines.{IsConsistent}
use Rattle.rv_machine.specs.Numbering.{AreNumbered}
use Rattle.rv_machine.proofs.Resumed.{resumed_consistent, resumed_numbered, resumed_opens}
use Rattle.rv_machine.proofs.tables.Holdings.holding.Goals as goal

pub from_states-requires-clause-most : goal.from_states-requires-clause-most
from_states-requires-clause-most c =
    subst (λ n. n ≤ most_resumed_clients) (map_long _ c.into_parts-epoch.ensures.clients)
    (subst (λ (s : State). len s.clients ≤ most_resumed_clients) c.into_parts-epoch.ensures.parts
    c.requires.room.clients)

pub resume-requires : goal.resume-requires
resume-requires c =
    subst (λ (known : FinMap nat_cmp ClientState). MayResume c.into_parts-epoch.result.3.items known)
    (ap (λ (t : ClientStates). t.clients) (sym c.in_ok-clients.ensures))
    (subst (λ (s : State). MayResume s.open_places s.clients) c.into_parts-epoch.ensures.parts
    (resumed_opens c.args.state c.requires))

same_state : (table opened : List OpenPlace) (clients made : ClientStates) (moment count : ℕ) (s : State)
    → table ≡ opened → clients ≡ made → record {
      epoch = made.epoch;
      moment = moment;
      length = count;
      open_places = opened;
      clients = made.clients;
    } ≡ s → record {
      epoch = clients.epoch;
      moment = moment;
      length = count;
      open_places = table;
      clients = clients.clients;
    } ≡ s
same_state table opened clients made moment count s tables known is = (λ i. record {
  epoch = (known i).epoch;
  moment = moment;
  length = count;
  open_places = tables i;
  clients = (known i).clients;
}) ∙ is

pub returns-clause-state : goal.returns-clause-state
returns-clause-state c =
    same_state c.in_ok-opened.opened.0 c.into_parts-epoch.result.3.items c.in_ok-opened.opened.1 _
    c.into_parts-epoch.result.1
    c.into_parts-epoch.result.2 c.args.state c.in_ok-opened.ensures.table
    (c.in_ok-opened.ensures.clients ∙ c.in_ok-clients.ensures) (sym c.into_parts-epoch.ensures.parts)

pub returns-clause-ready : goal.returns-clause-ready
returns-clause-ready c =
    let clients = c.in_ok-opened.ensures.clients ∙ c.in_ok-clients.ensures in
    let is = same_state c.in_ok-opened.opened.0 c.into_parts-epoch.result.3.items c.in_ok-opened.opened.1 _
    c.into_parts-epoch.result.1
    c.into_parts-epoch.result.2 c.args.state c.in_ok-opened.ensures.table clients
    (sym c.into_parts-epoch.ensures.parts) in
    record {
      consistent = subst IsConsistent (sym is) (resumed_consistent c.args.state c.requires);
      most = ap (λ (t : ClientStates). t.most) clients;
      room = omega (arith, c.waiting.ensures, c.in_ok-settled.ensures.capacity, c.in_ok-settled.ensures.len);
    }

pub returns-clause-numbered : goal.returns-clause-numbered
returns-clause-numbered c =
    let is = same_state c.in_ok-opened.opened.0 c.into_parts-epoch.result.3.items c.in_ok-opened.opened.1 _
    c.into_parts-epoch.result.1
    c.into_parts-epoch.result.2 c.args.state c.in_ok-opened.ensures.table
    (c.in_ok-opened.ensures.clients ∙ c.in_ok-clients.ensures) (sym c.into_parts-epoch.ensures.parts) in
    subst (λ (s : State). AreNumbered s) (sym is) (resumed_numbered c.args.state c.requires)
