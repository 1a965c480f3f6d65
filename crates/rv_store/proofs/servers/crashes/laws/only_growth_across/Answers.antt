-- The law, by what is kept, which Across proves.
use Rattle.rv_store.proofs.OfServers.OfCrashes.Across.{kept_after, runs_lead}
use Rattle.rv_store.proofs.servers.crashes.laws.only_growth_across.Goals as goal

pub returns : goal.returns
returns c = λ epoch occurrences w runs.
    λ further d more. (runs_lead c.effects_keep_servers.ensures c.sent_is_stored.ensures w further d
    (kept_after c.effects_keep_servers.ensures c.sent_is_stored.ensures epoch occurrences w runs)
    more).grows
