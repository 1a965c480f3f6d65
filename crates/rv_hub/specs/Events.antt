-- What happens to a hub, and which events can't be.
use Rattle.std.specs.Prelude.{ℕ, ◌≡◌, ◌<◌, ◌≤◌, ◌⊎◌, None, false, length, true}
use Rattle.rv_server_connections.specs.Connections.{HasWire}
use Rattle.rv_hub.specs.dispatcher.View.{DispatcherState}
use Rattle.rv_hub.specs.declared.events.EventRefusal.{EventRefusal}
use Rattle.rv_hub.specs.declared.events.EventRefusal.TheVariants as refused
use Rattle.rv_hub.specs.declared.events.HubEvent.{HubEvent}
use Rattle.rv_hub.specs.declared.events.HubEvent.TheVariants as event

-- the connection isn't open
abbrev pub IsNotOpen : DispatcherState → ℕ → Type 0
IsNotOpen s connection = s.open_wires.wires connection ≡ None

-- why an event can't be; want of memory is another matter
abbrev pub EventCannotBe : DispatcherState → HubEvent → EventRefusal → Type 0
EventCannotBe s event.Opened why = ⊥
EventCannotBe s (event.Came connection piece) why =
    (IsNotOpen s connection × (why ≡ refused.NotOpen))
    ⊎ (HasWire s.open_wires connection (λ wire. wire.ended ≡ true) × (why ≡ refused.HasEnded))
EventCannotBe s (event.Ended connection) why =
    (IsNotOpen s connection × (why ≡ refused.NotOpen))
    ⊎ (HasWire s.open_wires connection (λ wire. wire.ended ≡ true) × (why ≡ refused.HasEnded))
EventCannotBe s (event.Gone connection) why = IsNotOpen s connection × (why ≡ refused.NotOpen)
EventCannotBe s (event.Took connection count) why =
    (IsNotOpen s connection × (why ≡ refused.NotOpen))
    ⊎ (HasWire s.open_wires connection (λ wire. length wire.ready < count) × (why ≡ refused.NotOffered))
EventCannotBe s (event.Written entries) why =
    ((entries < s.open_wires.written) × (why ≡ refused.WrittenFalls))
    ⊎ ((s.book.length < entries) × (why ≡ refused.NotMade))
EventCannotBe s event.Passed why = ⊥

-- what must hold for an event to be possible
abbrev pub EventCan : DispatcherState → HubEvent → Type 0
EventCan s event.Opened = Unit {0}
EventCan s (event.Came connection piece) = HasWire s.open_wires connection (λ wire. wire.ended ≡ false)
EventCan s (event.Ended connection) = HasWire s.open_wires connection (λ wire. wire.ended ≡ false)
EventCan s (event.Gone connection) = HasWire s.open_wires connection (λ wire. Unit {0})
EventCan s (event.Took connection count) = HasWire s.open_wires connection (λ wire. count ≤ length wire.ready)
EventCan s (event.Written entries) = (s.open_wires.written ≤ entries) × (entries ≤ s.book.length)
EventCan s event.Passed = Unit {0}
