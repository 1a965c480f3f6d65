-- The set has just those that are heard.
use Rattle.std.proofs.Common.{◌∙◌, nat_eq, sym}
use Rattle.std.specs.HashSet.{contains}
use Rattle.rv_server_connections.proofs.OfSubscribers.Heard.{has_heard}
use Rattle.rv_server_connections.proofs.subscribers.counted.Counted.is_heard.Goals as goal

pub returns : goal.returns
returns c =
    let now = c.args.self.now in
    let is = has_heard now.tables c.requires.indexed (contains nat_eq now.heard) c.requires.heard
    c.args.client
    in (λ found. is.0 (sym c.contains.ensures ∙ found), λ heard. c.contains.ensures ∙ is.1 heard)
