-- The law, by what is kept, which Across proves.
use Rattle.rv_store.proofs.OfServers.OfCrashes.Across.{all_sound, kept_after}
use Rattle.rv_store.proofs.servers.crashes.laws.legal_accounts_across.Goals as goal

pub returns : goal.returns
returns c = λ epoch occurrences w runs.
    (all_sound w (kept_after c.effects_keep_servers.ensures c.sent_is_stored.ensures epoch occurrences w
    runs)).legal_accounts
