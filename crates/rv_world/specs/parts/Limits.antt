-- Which events keep the limits of their numbers and calls.
use Rattle.rv_text.specs.Limits.{FitsIdentifier, FitsCall}
use Rattle.rv_world.specs.declared.parts.event.Event.{Event}
use Rattle.rv_world.specs.declared.parts.event.Event.TheVariants as event

-- clients, incarnations, epochs and calls are those of messages; packets and moments are any
abbrev pub FitsEvent : Event → Type 0
FitsEvent (event.Start client incarnation version) = FitsIdentifier client × FitsIdentifier incarnation
FitsEvent (event.Begin client call) = FitsIdentifier client × FitsCall call
FitsEvent (event.Resend client) = FitsIdentifier client
FitsEvent (event.CancelSent client) = FitsIdentifier client
FitsEvent (event.Crash client) = FitsIdentifier client
FitsEvent (event.ToServer packet moment) = Unit {0}
FitsEvent (event.ToClient packet) = Unit {0}
FitsEvent (event.NewEpoch epoch) = FitsIdentifier epoch
