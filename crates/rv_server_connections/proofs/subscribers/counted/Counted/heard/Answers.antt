-- Their list is that of the set.
use Rattle.std.proofs.Common.{nat_eq, subst, sym}
use Rattle.std.specs.HashSet.{contains}
use Rattle.rv_server_connections.specs.subscribers.Subscription.{CountsHeard}
use Rattle.rv_server_connections.specs.subscribers.Indexed.{who_hears}
use Rattle.rv_server_connections.proofs.OfSubscribers.Heard.{counts_heard, has_heard}
use Rattle.rv_server_connections.proofs.subscribers.counted.Counted.heard.Goals as goal

pub returns : goal.returns
returns c =
    let now = c.args.self.now in
    subst (CountsHeard (who_hears now.tables)) (sym c.len.ensures.len) (counts_heard now.heard
    (who_hears now.tables) c.len.ensures.unique
    (has_heard now.tables c.requires.indexed (contains nat_eq now.heard) c.requires.heard))
