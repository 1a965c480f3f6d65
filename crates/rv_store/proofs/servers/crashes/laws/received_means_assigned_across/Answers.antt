-- The law, by what is kept, which Across proves.
use Rattle.rv_world.proofs.OfParts.TheHeadline.{received_means_assigned}
use Rattle.rv_store.specs.servers.crashes.Crashes.{stored_world}
use Rattle.rv_store.proofs.OfServers.OfCrashes.Across.{kept_after}
use Rattle.rv_store.proofs.servers.crashes.laws.received_means_assigned_across.Goals as goal

pub returns : goal.returns
returns c = λ epoch occurrences w runs.
    received_means_assigned (stored_world w) (kept_after c.effects_keep_servers.ensures
    c.sent_is_stored.ensures
    epoch occurrences w runs).sound
