-- A write at the client that the look-up finds changes its state, and leaves the others.
use Rattle.std.proofs.Common.{IsSome, sym, subst, refl, ap, ◌∙◌}
use Rattle.std.specs.Option.{option_copied_mut}
use Rattle.std.specs.FinMap.{get, insert}
use Rattle.rv_session.specs.contracts.clients.Clients.{the_view}
use Rattle.rv_session.specs.Entries.{map_of}
use Rattle.rv_session.specs.Clients.{ClientStates}
use Rattle.rv_session.proofs.OrderedMap.{get_tree, tree_put, written_ordered}
use Rattle.rv_session.proofs.Writing.{lent_there, same_but_clients}
use Rattle.rv_session.proofs.clients.Clients.renew.Goals as goal

pub unwrap-requires : goal.unwrap-requires
unwrap-requires c =
    lent_there option_copied_mut refl c.get_mut.result c.self.inside.clients.entries c.args.client
    c.get_mut.ensures.value
    (subst (λ (t : ClientStates). IsSome (get t.clients c.args.client)) (sym c.self.view_is) c.requires.known)

pub invariant_of-self : goal.invariant_of-self
invariant_of-self c =
    let wrote = c.get_mut.follows.holds c.replace.new.self in
    written_ordered c.self.inside.most c.self.inside.clients.entries _ c.self.invariant wrote.4 wrote.2

pub returns : goal.returns
returns c =
    let known = subst (λ (t : ClientStates). IsSome (get t.clients c.args.client)) (sym c.self.view_is)
    c.requires.known in
    let there = subst IsSome (get_tree c.self.inside.clients.entries c.args.client) known in
    let wrote = c.get_mut.follows.holds c.replace.new.self in
    let put = tree_put c.self.inside.clients.entries (c.get_mut.follows.lender c.replace.new.self).entries
    c.args.client c.replace.new.self (wrote.3 there).0 in
    rw (← c.self.view_is) (same_but_clients (the_view c.self.inside) _ _
    (put ∙ ap (insert (map_of c.self.inside.clients.entries) c.args.client)
    (c.replace.ensures ∙ c.fresh.ensures)))
