-- Events that open no connection.
use Rattle.std.proofs.Common.{◌≡◌}
use Rattle.rv_hub.specs.declared.events.HubEvent.{HubEvent}
use Rattle.rv_hub.specs.declared.events.HubEvent.TheVariants as event
use Rattle.rv_engine.specs.Handing.{IsNoOpening}

pub opens_not : (what : HubEvent) → IsNoOpening what → what ≡ event.Opened → ⊥
opens_not event.Opened other same = other
opens_not (event.Came n piece) other same = cc
opens_not (event.Ended n) other same = cc
opens_not (event.Gone n) other same = cc
opens_not (event.Took n count) other same = cc
opens_not (event.Written entries) other same = cc
opens_not event.Passed other same = cc
