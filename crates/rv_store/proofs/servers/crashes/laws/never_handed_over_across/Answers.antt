-- The law, by what is kept, which Across proves.
use Rattle.rv_store.proofs.OfServers.OfCrashes.Across.{kept_after, nobody_met_later, runs_lead}
use Rattle.rv_store.proofs.servers.crashes.laws.never_handed_over_across.Goals as goal

pub returns : goal.returns
returns c = λ epoch occurrences w runs.
    λ key told further d answered is_no more. nobody_met_later w d key told
    (runs_lead c.effects_keep_servers.ensures c.sent_is_stored.ensures w further d
    (kept_after c.effects_keep_servers.ensures c.sent_is_stored.ensures epoch occurrences w runs) more)
    answered is_no
