-- An ordered map lends its own entries, which rise, and whose map it is.
use Rattle.std.proofs.Common.{rules, ◌≡◌, ◌++◌, ◌∙◌, sym, ap, subst}
use Rattle.std.specs.FinMap.{entries}
use Rattle.rv_session.specs.Clients.{ClientStates}
use Rattle.rv_session.specs.ClientOrder.{ClientsRise}
use Rattle.rv_session.specs.Entries.{map_of}
use Rattle.rv_session.proofs.OrderedMap.{own_entries, own_map}
use Rattle.rv_session.proofs.RisingStates.{rise_from_ordered}
use Rattle.rv_session.proofs.clients.Clients.states.Goals as goal

pub loop-client-init : goal.loop-client-init
loop-client-init c =
    ap (λ l. l ++ c.into_iter-client-iterator.result) c.in_ok-states.ensures.items
    ∙ c.into_iter-client-iterator.ensures.into_iter_gives.0
    ∙ sym (own_entries c.self.inside.clients.entries c.self.invariant.ordered)
    ∙ ap (λ (t : ClientStates). entries t.clients) c.self.view_is

pub returns-clause-rise : goal.returns-clause-rise
returns-clause-rise c =
    let all : c.loop-client.states.items ≡ entries c.args.self.now.clients = search rules in
    let own = own_entries c.self.inside.clients.entries c.self.invariant.ordered in
    subst ClientsRise (sym own ∙ ap (λ (t : ClientStates). entries t.clients) c.self.view_is ∙ sym all)
    (rise_from_ordered c.self.inside.clients.entries c.self.invariant.ordered)

pub returns-clause-same : goal.returns-clause-same
returns-clause-same c =
    let all : c.loop-client.states.items ≡ entries c.args.self.now.clients = search rules in
    ap map_of all ∙ own_map c.args.self.now.clients
