-- The law, which AsToday proves.
use Rattle.rv_store.proofs.OfServers.OfCrashes.AsToday.{as_today}
use Rattle.rv_store.proofs.servers.crashes.laws.today_is_the_case.Goals as goal

pub returns : goal.returns
returns c = as_today
