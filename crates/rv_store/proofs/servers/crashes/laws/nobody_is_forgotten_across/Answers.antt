-- The law, by what is kept, which Remembered proves.
use Rattle.rv_store.proofs.OfServers.OfCrashes.Remembered.{remembered_after}
use Rattle.rv_store.proofs.servers.crashes.laws.nobody_is_forgotten_across.Goals as goal

pub returns : goal.returns
returns c = λ epoch occurrences w runs packet refusal there is forgets.
    (remembered_after c.effects_keep_servers.ensures c.sent_is_stored.ensures epoch occurrences w runs).sent
    packet
    there refusal is forgets
