-- Why an event can't be, by what was checked; and that a new hub is at rest.
use Rattle.std.proofs.Common.{◌≡◌, ◌<◌, ◌⊎◌, [], ℕ, arith, refl, subst, sym}
use Rattle.std.proofs.Common.{Bool, Err, IfErr, Ok, OnOk, Result, length}
use Rattle.std.proofs.lemmas.Option.{none-some}
use Rattle.rv_account.specs.state.State.{State}
use Rattle.rv_server_connections.specs.subscribers.Subscription.{nobody}
use Rattle.rv_server_connections.specs.Connections.{HasWire, none_open}
use Rattle.rv_hub.specs.dispatcher.View.{DispatcherState}
use Rattle.rv_hub.specs.declared.events.EventRefusal.{EventRefusal}
use Rattle.rv_hub.specs.declared.events.EventRefusal.TheVariants as refused
use Rattle.rv_hub.specs.declared.events.HubEvent.{HubEvent}
use Rattle.rv_hub.specs.declared.events.HubEvent.TheVariants as event
use Rattle.rv_hub.specs.Events.{EventCannotBe, IsNotOpen}
use Rattle.rv_hub.specs.Turns.{IsAtRest}
use Rattle.rv_hub.proofs.Staying.{stops_closed}

pub ok_can : {T : Type 0} → (P Q : Type 0) (r : Result T EventRefusal) → (P → Q) → OnOk r P → OnOk r Q
ok_can P Q (Ok x) goes holds = goes holds
ok_can P Q (Err why) goes holds = tt

pub took_cannot : {T : Type 0} → (s : DispatcherState) (what : HubEvent) (connection count : ℕ)
    (r : Result T EventRefusal)
    → what ≡ event.Took connection count
    → IfErr r (λ why. (IsNotOpen s connection × (why ≡ refused.NotOpen))
    ⊎ (HasWire s.open_wires connection (λ wire. length wire.ready < count) × (why ≡ refused.NotOffered)))
    → IfErr r (EventCannotBe s what)
took_cannot s what connection count (Ok x) is cannot = tt
took_cannot s what connection count (Err why) is cannot =
    subst (λ (w : HubEvent). EventCannotBe s w why) (sym is) cannot

-- ---- a new hub

pub new_rest : (journal : Bool) (s : DispatcherState) (book : State) → s ≡ record {
  book = book;
  now = book.moment;
  open_wires = none_open book.length;
  changed = [];
  hears = nobody;
} → IsAtRest journal s
new_rest journal s book same =
    subst (IsAtRest journal) (sym same) (record {
      stopped = λ connection. stops_closed;
      subscribers_owe = λ connection subscription there. absurd (none-some subscription there);
      owers_hear = λ connection wire there owes. absurd (none-some wire there);
      waits = λ connection subscription there. absurd (none-some subscription there);
      in_time = λ connection subscription there. absurd (none-some subscription there);
      written = omega arith;
      all_written = λ none. refl;
    })
