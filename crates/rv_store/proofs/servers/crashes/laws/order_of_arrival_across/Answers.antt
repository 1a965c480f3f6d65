-- The law, by what is kept, which Across proves.
use Rattle.rv_world.proofs.OfParts.TheHeadline.{order_of_arrival}
use Rattle.rv_store.specs.servers.crashes.Crashes.{made_world}
use Rattle.rv_store.proofs.OfServers.OfCrashes.Across.{all_sound, kept_after}
use Rattle.rv_store.proofs.servers.crashes.laws.order_of_arrival_across.Goals as goal

pub returns : goal.returns
returns c = λ epoch occurrences w runs.
    order_of_arrival (made_world w) (all_sound w (kept_after c.effects_keep_servers.ensures
    c.sent_is_stored.ensures epoch occurrences w runs))
