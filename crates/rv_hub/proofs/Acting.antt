-- An event's own effect, by the call that does it.
use Rattle.std.proofs.Common.{◌≡◌, ◌≤◌, ℕ, [], None, Option, Some, refl, sym, subst}
use Rattle.std.proofs.Common.{Bool, false, length, true}
use Rattle.std.specs.Prelude.{IsSome}
use Rattle.rv_server_connections.specs.connection.Steps.{input_ended, left_by}
use Rattle.rv_server_connections.specs.Connections.{HasWire}
use Rattle.rv_hub.specs.declared.dispatcher.Dispatcher.{Dispatcher}
use Rattle.rv_hub.specs.dispatcher.View.{ChangesBytes, DispatcherState}
use Rattle.rv_hub.specs.dispatcher.Effects.{DoesAll, DoesClose, DoesOpen, DoesWrite}
use Rattle.rv_hub.specs.dispatcher.Fields.{dispatcher_state, dispatcher_terms}
use Rattle.rv_hub.specs.declared.events.HubEvent.{HubEvent}
use Rattle.rv_hub.specs.declared.events.HubEvent.TheVariants as event
use Rattle.rv_hub.specs.Events.{EventCan}
use Rattle.rv_hub.specs.Steps.{ActsOwn, opened_number}
use Rattle.rv_hub.specs.Turns.{last_effects, own_effects}

-- ---- what a call rests on

pub can_end : (s : DispatcherState) (what : HubEvent) (connection : ℕ) → what ≡ event.Ended connection
    → EventCan s what
    → HasWire s.open_wires connection (λ wire. wire.ended ≡ false)
can_end s what connection is can = subst (λ (w : HubEvent). EventCan s w) is can

pub can_take : (s : DispatcherState) (what : HubEvent) (connection count : ℕ)
    → what ≡ event.Took connection count
    → EventCan s what → HasWire s.open_wires connection (λ wire. count ≤ length wire.ready)
can_take s what connection count is can = subst (λ (w : HubEvent). EventCan s w) is can

some_there : {X : Type 0} → (o : Option X) (x : X) → o ≡ Some x → IsSome o
some_there o x is = subst IsSome (sym is) refl

pub can_close : (s : DispatcherState) (what : HubEvent) (connection : ℕ) → what ≡ event.Gone connection
    → EventCan s what
    → IsSome (s.open_wires.wires connection)
can_close s what connection is can =
    let has : HasWire s.open_wires connection (λ wire. Unit {0}) = subst (λ (w : HubEvent). EventCan s w) is
    can in
    some_there (s.open_wires.wires connection) has.wire has.there

pub can_write : (s : DispatcherState) (what : HubEvent) (entries : ℕ) → what ≡ event.Written entries
    → EventCan s what
    → (s.open_wires.written ≤ entries) × (entries ≤ s.book.length)
can_write s what entries is can = subst (λ (w : HubEvent). EventCan s w) is can

-- ---- what it does

pub acts_none : (old : Dispatcher) (what : HubEvent) → own_effects what 0 ≡ [] → opened_number what 0 ≡ None
    → ActsOwn old what None old
acts_none old what none unopened = record {
  number = 0;
  opened_is = sym unopened;
  does = subst (λ ds. DoesAll (dispatcher_terms old) (dispatcher_state old) ds (dispatcher_state old))
      (sym none) refl;
}

pub acts_open : (old new : Dispatcher) (what : HubEvent) (connection : ℕ) → what ≡ event.Opened
    → DoesOpen (dispatcher_state old) connection (dispatcher_state new)
    → ActsOwn old what (Some connection) new
acts_open old new what connection is opens =
    subst (λ (w : HubEvent). ActsOwn old w (Some connection) new) (sym is)
    (record { number = connection; opened_is = refl; does = (dispatcher_state new, opens, refl) })

pub acts_end : (old new : Dispatcher) (what : HubEvent) (connection : ℕ) → what ≡ event.Ended connection
    → ChangesBytes (dispatcher_state old) connection (λ wire after. (wire.ended ≡ false)
    × (after ≡ input_ended wire))
    (dispatcher_state new) → ActsOwn old what None new
acts_end old new what connection is ends =
    subst (λ (w : HubEvent). ActsOwn old w None new) (sym is)
    (record { number = 0; opened_is = refl; does = (dispatcher_state new, ends, refl) })

pub acts_take : (old new : Dispatcher) (what : HubEvent) (connection count : ℕ)
    → what ≡ event.Took connection count
    → ChangesBytes (dispatcher_state old) connection
    (λ wire after. (count ≤ length wire.ready) × (after ≡ left_by wire count)) (dispatcher_state new)
    → ActsOwn old what None new
acts_take old new what connection count is leaves =
    subst (λ (w : HubEvent). ActsOwn old w None new) (sym is)
    (record { number = 0; opened_is = refl; does = (dispatcher_state new, leaves, refl) })

pub acts_close : (old new : Dispatcher) (what : HubEvent) (connection : ℕ) → what ≡ event.Gone connection
    → DoesClose (dispatcher_state old) connection (dispatcher_state new) → ActsOwn old what None new
acts_close old new what connection is closes =
    subst (λ (w : HubEvent). ActsOwn old w None new) (sym is)
    (record { number = 0; opened_is = refl; does = (dispatcher_state new, closes, refl) })

pub acts_write : (old new : Dispatcher) (what : HubEvent) (entries : ℕ) → what ≡ event.Written entries
    → DoesWrite (dispatcher_state old) entries (dispatcher_state new) → ActsOwn old what None new
acts_write old new what entries is writes =
    subst (λ (w : HubEvent). ActsOwn old w None new) (sym is)
    (record { number = 0; opened_is = refl; does = (dispatcher_state new, writes, refl) })

-- ---- without a journal all is written

pub writes_all : (old new : Dispatcher) (journal : Bool) (entries : ℕ) → journal ≡ false
    → entries ≡ (dispatcher_state old).book.length
    → DoesWrite (dispatcher_state old) entries (dispatcher_state new)
    → DoesAll (dispatcher_terms old) (dispatcher_state old) (last_effects journal (dispatcher_state old))
    (dispatcher_state new)
writes_all old new journal entries none all writes =
    subst (λ b. DoesAll (dispatcher_terms old) (dispatcher_state old) (last_effects b (dispatcher_state old))
    (dispatcher_state new))
    (sym none) (
      dispatcher_state new,
      subst (λ n. DoesWrite (dispatcher_state old) n (dispatcher_state new)) all writes,
      refl,
    )

pub writes_none : (old : Dispatcher) (journal : Bool) → journal ≡ true
    → DoesAll (dispatcher_terms old) (dispatcher_state old) (last_effects journal (dispatcher_state old))
    (dispatcher_state old)
writes_none old journal kept =
    subst (λ b. DoesAll (dispatcher_terms old) (dispatcher_state old) (last_effects b (dispatcher_state old))
    (dispatcher_state old))
    (sym kept)
    refl
