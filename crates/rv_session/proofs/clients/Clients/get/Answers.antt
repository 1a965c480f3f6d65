-- What a look-up lends is what the map has.
use Rattle.std.proofs.Common.{sym, ap, ◌∙◌}
use Rattle.std.specs.FinMap.{get}
use Rattle.rv_session.specs.Clients.{ClientStates}
use Rattle.rv_session.proofs.OrderedMap.{get_tree}
use Rattle.rv_session.proofs.clients.Clients.get.Goals as goal

pub returns : goal.returns
returns c =
    c.get.ensures.value ∙ sym (get_tree c.self.inside.clients.entries c.args.client)
    ∙ ap (λ (t : ClientStates). get t.clients c.args.client) c.self.view_is
