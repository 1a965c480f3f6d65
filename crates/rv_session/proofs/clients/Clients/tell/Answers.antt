-- A write at the client that the look-up finds changes its state, and leaves the others.
use Rattle.std.proofs.Common.{IsSome, sym, subst, refl, ap, ◌∙◌}
use Rattle.std.specs.Option.{option_copied_mut}
use Rattle.std.specs.FinMap.{get}
use Rattle.rv_session.specs.Clients.{ClientStates, answered, with_request}
use Rattle.rv_session.proofs.OrderedMap.{get_tree, tree_put, written_ordered}
use Rattle.rv_session.proofs.Writing.{lent_there, changes_known}
use Rattle.rv_session.proofs.clients.Clients.tell.Goals as goal

pub unwrap-requires : goal.unwrap-requires
unwrap-requires c =
    lent_there option_copied_mut refl c.get_mut.result c.self.inside.clients.entries c.args.client
    c.get_mut.ensures.value
    (subst (λ (t : ClientStates). IsSome (get t.clients c.args.client)) (sym c.self.view_is) c.requires)

pub invariant_of-self : goal.invariant_of-self
invariant_of-self c =
    let wrote = c.get_mut.follows.holds c.answer.new.self in
    written_ordered c.self.inside.most c.self.inside.clients.entries _ c.self.invariant wrote.4 wrote.2

pub returns : goal.returns
returns c =
    let known = subst (λ (t : ClientStates). IsSome (get t.clients c.args.client)) (sym c.self.view_is)
    c.requires in
    let there = subst IsSome (get_tree c.self.inside.clients.entries c.args.client) known in
    let wrote = c.get_mut.follows.holds c.answer.new.self in
    let put = tree_put c.self.inside.clients.entries (c.get_mut.follows.lender c.answer.new.self).entries
    c.args.client c.answer.new.self (wrote.3 there).0 in
    let read = get_tree c.self.inside.clients.entries c.args.client ∙ sym c.get_mut.ensures.value
    ∙ ap option_copied_mut c.unwrap.ensures in
    rw (← c.self.view_is) (changes_known _ c.args.client
    (λ state. with_request state (answered c.args.reply state.request)) c.unwrap.result.now
    c.answer.new.self _ read c.answer.ensures put)
