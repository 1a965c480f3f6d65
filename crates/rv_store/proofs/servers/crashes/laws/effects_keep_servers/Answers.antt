-- Each effect, by what Effects has of it.
use Rattle.rv_store.specs.servers.crashes.Crashes.{Crashed, Lacked, Passed, Stepped, Stored}
use Rattle.rv_store.proofs.OfServers.OfCrashes.Effects.{crashed, lacked, passed, stepped, stores}
use Rattle.rv_store.proofs.servers.crashes.laws.effects_keep_servers.Goals as goal

pub returns : goal.returns
returns c messages s t (Stepped limits moment message) server sent does = stepped messages s t limits moment
    message
    does.said does.told server sent does.next does.is_told does.rest
returns c messages s t (Passed moment) server sent does = passed messages s t moment server does.0 does.2
    does.3
returns c messages s t (Lacked message) server sent does = lacked messages s t message server does
returns c messages s t (Stored count) server sent does = stores messages s t count server does.0 does.2
returns c messages s t (Crashed left) server sent does = crashed messages s t left server does
