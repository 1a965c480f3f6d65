-- A write at the client that the look-up finds changes its state, and leaves the others.
use Rattle.std.proofs.Common.{IsSome, Some, sym, subst, refl, ap, ◌∙◌}
use Rattle.std.specs.Prelude.{option_map}
use Rattle.std.specs.Option.{option_copied_mut}
use Rattle.std.specs.FinMap.{get}
use Rattle.rv_session.specs.declared.client.ClientState.{ClientState}
use Rattle.rv_session.specs.Clients.{ClientStates, client_version, with_last_number}
use Rattle.rv_session.proofs.OrderedMap.{get_tree, tree_put, written_ordered}
use Rattle.rv_session.proofs.Writing.{lent_there, changes_known}
use Rattle.rv_session.proofs.clients.Clients.advance.Goals as goal

pub unwrap-requires : goal.unwrap-requires
unwrap-requires c =
    lent_there option_copied_mut refl c.get_mut.result c.self.inside.clients.entries c.args.key.now.client
    c.get_mut.ensures.value
    (subst (λ (t : ClientStates). IsSome (get t.clients c.args.key.now.client)) (sym c.self.view_is)
    c.requires)

pub invariant_of-self : goal.invariant_of-self
invariant_of-self c =
    let wrote = c.get_mut.follows.holds c.advance.new.self in
    written_ordered c.self.inside.most c.self.inside.clients.entries _ c.self.invariant wrote.4 wrote.2

pub returns-clause-asked : goal.returns-clause-asked
returns-clause-asked c =
    let known = subst (λ (t : ClientStates). IsSome (get t.clients c.args.key.now.client))
    (sym c.self.view_is) c.requires in
    let there = subst IsSome (get_tree c.self.inside.clients.entries c.args.key.now.client) known in
    let wrote = c.get_mut.follows.holds c.advance.new.self in
    let put = tree_put c.self.inside.clients.entries (c.get_mut.follows.lender c.advance.new.self).entries
    c.args.key.now.client c.advance.new.self (wrote.3 there).0 in
    let read = get_tree c.self.inside.clients.entries c.args.key.now.client ∙ sym c.get_mut.ensures.value
    ∙ ap option_copied_mut c.unwrap.ensures in
    rw (← c.self.view_is) (changes_known _ c.args.key.now.client
    (λ state. with_last_number state c.args.key.now.number c.args.request) c.unwrap.result.now
    c.advance.new.self _ read c.advance.ensures.asked put)

pub returns-clause-version : goal.returns-clause-version
returns-clause-version c =
    let read = get_tree c.self.inside.clients.entries c.args.key.now.client ∙ sym c.get_mut.ensures.value
    ∙ ap option_copied_mut c.unwrap.ensures in
    ap (λ (t : ClientStates). client_version t.clients c.args.key.now.client) (sym c.self.view_is)
    ∙ ap (option_map (λ (x : ClientState). x.version)) read
    ∙ ap Some (sym c.advance.ensures.version)
