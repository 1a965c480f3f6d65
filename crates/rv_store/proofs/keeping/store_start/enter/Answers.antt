-- By the boots that were read.
use Rattle.rv_store.specs.keeping.Boots.{known_boots}
use Rattle.rv_store.proofs.OfKeeping.Chosen.{chosen_by}
use Rattle.rv_store.proofs.keeping.store_start.enter.Goals as goal

pub returns-clause-chosen : goal.returns-clause-chosen
returns-clause-chosen c =
    let wish = c.wish_where-wish.ensures in
    chosen_by _ (known_boots _) _ _ _ _ _ c.in_ok-boots.ensures.named c.lets_go_on-lets_go_on.ensures
    (record { least = wish.least; most = wish.most; new = wish.new }) c.in_ok-account.ensures.chosen.1
