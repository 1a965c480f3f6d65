-- An insertion of a new client gives it its state, leaves the others, and the entries in order.
use Rattle.std.proofs.Common.{◌≡◌, ◌<◌, None, sym, subst, ap, ◌∙◌}
use Rattle.std.specs.FinMap.{get, insert, len}
use Rattle.rv_session.specs.contracts.clients.Clients.{the_view}
use Rattle.rv_session.specs.Entries.{map_of}
use Rattle.rv_session.specs.Clients.{ClientStates}
use Rattle.rv_session.proofs.OrderedMap.{put_ordered, tree_put}
use Rattle.rv_session.proofs.Writing.{same_but_clients}
use Rattle.rv_session.proofs.clients.Clients.admit.Goals as goal

pub invariant_of-self-2 : goal.invariant_of-self-2
invariant_of-self-2 c =
    put_ordered c.self.inside.most c.self.inside.clients.entries c.insert.new.self.entries c.args.client _
    c.insert.ensures.ordered c.in_ok-insert.ensures.updates.0
    (subst (λ (t : ClientStates). get t.clients c.args.client ≡ None) (sym c.self.view_is)
    c.requires.unknown)
    (subst (λ (t : ClientStates). len t.clients < t.most) (sym c.self.view_is) c.requires.most)

pub returns-clause-ok : goal.returns-clause-ok
returns-clause-ok c =
    let put = tree_put c.self.inside.clients.entries c.insert.new.self.entries c.args.client _
    c.in_ok-insert.ensures.updates.0 in
    rw (← c.self.view_is) (same_but_clients (the_view c.self.inside) _ _
    (put ∙ ap (insert (map_of c.self.inside.clients.entries) c.args.client) c.fresh.ensures))
