-- A connection is opened, ended, let go or closed, and entries are written: the dispatcher stays as it has to
-- be.
use Rattle.std.proofs.Common.{◌≡◌, ◌<◌, ◌≤◌, ◌∙◌, ℕ, None, Option, Some, refl, sym, ap, [], subst, arith}
use Rattle.std.proofs.Common.{length, false, Ok, Err, Result, IfOk, OnErr}
use Rattle.std.specs.Global.{Vec}
use Rattle.std.specs.Prelude.{IsSome, vec_capacity}
use Rattle.std.proofs.lemmas.Bool.{false≢true}
use Rattle.std.proofs.lemmas.Option.{none-some}
use Rattle.rv_account.specs.rules.StepLimits.{AreStepLimits}
use Rattle.rv_machine.specs.Machines.{state_in}
use Rattle.rv_machine.specs.declared.machine.Machine.{Machine}
use Rattle.rv_account.specs.state.resume.Resuming.{CanResume}
use Rattle.rv_account.specs.declared.entry.Entry.{Entry}
use Rattle.rv_server_connections.specs.connection.Traffic.{Traffic}
use Rattle.rv_server_connections.specs.connection.Steps.{fresh_traffic, input_ended, left_by}
use Rattle.rv_server_connections.specs.declared.subscribers.Subscribers.{Subscribers}
use Rattle.rv_server_connections.specs.declared.subscribers.tables.Subscription.{Subscription}
use Rattle.rv_server_connections.specs.subscribers.Subscription.{SetsSubscription, WhoHears, nobody}
use Rattle.rv_server_connections.specs.subscribers.Subscribers.{subscribers_of}
use Rattle.rv_server_connections.specs.Connections.{ChangesWire, HasWire, OpensWire, ReleasesAll}
use Rattle.rv_server_connections.specs.Connections.{ReleasesOpen, SetsWire, WiresState, none_open}
use Rattle.rv_server_connections.specs.Wires.{wires_in}
use Rattle.rv_server_connections.specs.declared.wires.Wires.{Wires}
use Rattle.rv_hub.specs.declared.dispatcher.Dispatcher.{Dispatcher}
use Rattle.rv_hub.specs.dispatcher.View.{ChangesBytes}
use Rattle.rv_hub.specs.dispatcher.Effects.{DoesClose}
use Rattle.rv_hub.specs.dispatcher.Fields.{IsBook, IsDispatcherReady, IsDispatcherSound, IsSteady}
use Rattle.rv_hub.specs.dispatcher.Fields.{dispatcher_state, dispatcher_terms}
use Rattle.rv_hub.specs.dispatcher.Going.{NotesOne}
use Rattle.rv_hub.proofs.OfDispatcher.Answering.{not_some, some_is, sound_wire}
use Rattle.rv_hub.proofs.OfDispatcher.Owing.{Agree, hears_kept, owes_kept}
use Rattle.rv_hub.proofs.OfDispatcher.ToldOne.{fewer_hear, not_open, not_owing}
use Rattle.rv_hub.proofs.OfDispatcher.Turning.{same_sound, sound_same}

-- ---- new

pub book_at : (m : Machine) (now : ℕ) → CanResume (state_in m) → now ≡ (state_in m).moment → IsBook m now
book_at m now resumes same = record {
  resumes = resumes;
  later = omega (arith, same);
  time = let time = resumes.room.time in omega (arith, same, time);
}

pub new_ready : (d : Dispatcher) (written : ℕ) → IsBook d.machine d.latest → 0 < d.patience
    → AreStepLimits (dispatcher_terms d).limits → subscribers_of d.subscribers ≡ nobody
    → wires_in d.wires ≡ none_open written → 1 ≤ vec_capacity d.entries → d.freed.items ≡ []
    → IsDispatcherReady d
new_ready d written book patient limits none closed room freed =
    let no_subscriber : (n : ℕ) (h : Subscription) → subscribers_of d.subscribers n ≡ Some h → ⊥ =
    λ n h there. none-some h (sym (ap (λ (w : WhoHears). w n) none) ∙ there) in
    let no_wire : (n : ℕ) (wire : Traffic) → (wires_in d.wires).wires n ≡ Some wire → ⊥ =
    λ n wire there. none-some wire (sym (ap (λ (w : WiresState). w.wires n) closed) ∙ there) in
    record {
      sound = record {
        book = book;
        patient = patient;
        limits = limits;
        subscribers_owe = λ n h there. absurd (no_subscriber n h there);
        owers_hear = λ n wire there owing. absurd (no_wire n wire there);
        tellable = λ n h there. absurd (no_subscriber n h there);
      };
      waits = λ n h there. absurd (no_subscriber n h there);
      room = room;
      none_freed = freed;
    }

-- ---- opened

not_subscription_closed : (d : Dispatcher) (connection : ℕ) → IsDispatcherSound d
    → (wires_in d.wires).wires connection ≡ None
    → subscribers_of d.subscribers connection ≡ None
not_subscription_closed d connection sound none =
    not_some (subscribers_of d.subscribers connection) (λ subscription there.
    let owing = sound.subscribers_owe connection subscription there in
    none-some owing.wire (sym none ∙ owing.there))

-- it is ready with other wires where it is sound
ready_wires : (d : Dispatcher) (wires : Wires) → IsDispatcherReady d
    → IsDispatcherSound (record d { wires = wires })
    → IsDispatcherReady (record d { wires = wires })
ready_wires d wires ready sound = record {
  sound = sound;
  waits = ready.waits;
  room = ready.room;
  none_freed = ready.none_freed;
}

pub opened_ready : (d : Dispatcher) (wires : Wires) (connection : ℕ) → IsDispatcherReady d
    → OpensWire (wires_in d.wires) connection (wires_in wires)
    → IsDispatcherReady (record d { wires = wires })
opened_ready d wires connection ready opens =
    ready_wires d wires ready (sound_wire d wires connection (Some fresh_traffic) ready.sound opens.sets
    (subst (λ o. Agree (Some fresh_traffic) o) (sym (not_subscription_closed d connection ready.sound
    opens.free))
    (not_owing fresh_traffic refl)))

-- ---- its input ended, or bytes of it left

pub ended_it : (d : Dispatcher) (wires : Wires) (connection : ℕ) → IsDispatcherReady d
    → HasWire (wires_in d.wires) connection (λ wire. wire.ended ≡ false)
    → (ends : ChangesWire (wires_in d.wires) connection (λ wire after. after ≡ input_ended wire)
    (wires_in wires))
    → NotesOne d.wires connection wires
    → IsDispatcherReady (record d { wires = wires })
    × ChangesBytes (dispatcher_state d) connection (λ wire after. (wire.ended ≡ false)
    × (after ≡ input_ended wire))
    (dispatcher_state (record d { wires = wires }))
ended_it d wires connection ready has ends noted =
    let same = some_is has.wire ends.wire (sym has.there ∙ ends.there) in (
      ready_wires d wires ready (sound_same d wires connection ends.wire ends.after ready.sound ends.there
          (ap (λ (t : Traffic). t.owes) ends.changes) ends.sets),
      record {
        changes = record {
          wire = ends.wire;
          after = ends.after;
          there = ends.there;
          changes = (ap (λ (t : Traffic). t.ended) (sym same) ∙ has.so, ends.changes);
          sets = ends.sets;
        };
        lists = noted.changed;
        rest = refl;
      },
    )

pub left_it : (d : Dispatcher) (wires : Wires) (connection count : ℕ) → IsDispatcherReady d
    → HasWire (wires_in d.wires) connection (λ wire. count ≤ length wire.ready)
    → (leaves : ChangesWire (wires_in d.wires) connection (λ wire after. after ≡ left_by wire count)
    (wires_in wires))
    → NotesOne d.wires connection wires
    → IsDispatcherReady (record d { wires = wires })
    × ChangesBytes (dispatcher_state d) connection
    (λ wire after. (count ≤ length wire.ready) × (after ≡ left_by wire count))
    (dispatcher_state (record d { wires = wires }))
left_it d wires connection count ready has leaves noted =
    let same = some_is has.wire leaves.wire (sym has.there ∙ leaves.there) in (
      ready_wires d wires ready (sound_same d wires connection leaves.wire leaves.after ready.sound
          leaves.there
          (ap (λ (t : Traffic). t.owes) leaves.changes) leaves.sets),
      record {
        changes = record {
          wire = leaves.wire;
          after = leaves.after;
          there = leaves.there;
          changes = (subst (λ (t : Traffic). count ≤ length t.ready) same has.so, leaves.changes);
          sets = leaves.sets;
        };
        lists = noted.changed;
        rest = refl;
      },
    )

-- ---- so many entries are written

-- what owes an answer after a release did so before
owes_before : (written : ℕ) (was now : Option Traffic) (wire : Traffic) → ReleasesOpen written was now
    → now ≡ Some wire → (t : Traffic) × (was ≡ Some t) × (wire.owes ≡ t.owes)
owes_before written None now wire none is = absurd (none-some wire (sym none ∙ is))
owes_before written (Some t) (Some after) wire releases is = (
  t,
  refl,
  ap (λ (x : Traffic). x.owes) (some_is wire after (sym is)) ∙ ap (λ (x : Traffic). x.owes)
      releases.goes,
)
owes_before written (Some t) None wire releases is = absurd (none-some wire is)

-- and the other way round
owes_behind : (written : ℕ) (was now : Option Traffic) (wire : Traffic) → ReleasesOpen written was now
    → was ≡ Some wire → (t : Traffic) × (now ≡ Some t) × (t.owes ≡ wire.owes)
owes_behind written None now wire none is = absurd (none-some wire is)
owes_behind written (Some t) (Some after) wire releases is = (
  after,
  refl,
  ap (λ (x : Traffic). x.owes) releases.goes ∙ ap (λ (x : Traffic). x.owes)
      (some_is t wire is),
)
owes_behind written (Some t) None wire releases is = absurd (releases)

pub written_ready : (d : Dispatcher) (wires : Wires) (written : ℕ) → IsDispatcherReady d
    → ReleasesAll (wires_in d.wires) written (wires_in wires) → IsDispatcherReady (record d { wires = wires })
written_ready d wires written ready all =
    ready_wires d wires ready (record {
      book = ready.sound.book;
      patient = ready.sound.patient;
      limits = ready.sound.limits;
      subscribers_owe = λ n h there.
          let owing = ready.sound.subscribers_owe n h there in
          let behind = owes_behind written ((wires_in d.wires).wires n) ((wires_in wires).wires n) owing.wire
          (all.each n) owing.there in
          record { wire = behind.0; there = behind.1; so = behind.2 ∙ owing.so };
      owers_hear = λ n wire there owing.
          let before = owes_before written ((wires_in d.wires).wires n) ((wires_in wires).wires n) wire
          (all.each n)
          there in
          ready.sound.owers_hear n before.0 before.1 (sym before.2 ∙ owing);
      tellable = ready.sound.tellable;
    })

-- ---- closed

has_wire : (s : WiresState) (connection : ℕ) (o : Option Traffic) → s.wires connection ≡ o → IsSome o
    → HasWire s connection (λ wire. Unit {0})
has_wire s connection None is some = absurd (false≢true some)
has_wire s connection (Some wire) is some = record { wire = wire; there = is; so = tt }

module _ (d : Dispatcher) (wires : Wires) (subscribers : Subscribers) (connection : ℕ)
    (sets : SetsWire (wires_in d.wires) connection None (wires_in wires))
    (hears : SetsSubscription (subscribers_of d.subscribers) connection None (subscribers_of subscribers))
  where
    pub closes_it : IsSome ((wires_in d.wires).wires connection) → NotesOne d.wires connection wires
        → DoesClose (dispatcher_state d) connection (dispatcher_state (record d {
          wires = wires;
          subscribers =
              subscribers;
        }))
    closes_it some noted = record {
      there = has_wire (wires_in d.wires) connection ((wires_in d.wires).wires connection) refl some;
      sets = sets;
      lists = noted.changed;
      hears = hears;
      rest = refl;
    }

    closed_sound : IsDispatcherSound d
        → IsDispatcherSound (record d { wires = wires; subscribers = subscribers })
    closed_sound sound =
        let new = record d { wires = wires; subscribers = subscribers } in
        record {
          book = sound.book;
          patient = sound.patient;
          limits = sound.limits;
          subscribers_owe = owes_kept (dispatcher_state d) (dispatcher_state new) connection None None
              sound.subscribers_owe sets
              hears
              not_open;
          owers_hear = hears_kept (dispatcher_state d) (dispatcher_state new) connection None None
              sound.owers_hear sets
              hears
              not_open;
          tellable = λ n h there.
              sound.tellable n h (fewer_hear (subscribers_of d.subscribers) (subscribers_of subscribers)
              connection hears n h
              there);
        }

    pub closed_ready : IsDispatcherReady d
        → IsDispatcherReady (record d { wires = wires; subscribers = subscribers })
    closed_ready ready = record {
      sound = closed_sound ready.sound;
      waits = λ n h there.
          ready.waits n h (fewer_hear (subscribers_of d.subscribers) (subscribers_of subscribers) connection
          hears n h there);
      room = ready.room;
      none_freed = ready.none_freed;
    }

    pub closed_steady : IsSteady d → IsSteady (record d { wires = wires; subscribers = subscribers })
    closed_steady steady =
        let fewer = fewer_hear (subscribers_of d.subscribers) (subscribers_of subscribers) connection hears in
        record {
          sound = closed_sound steady.sound;
          waits = λ n h there. steady.waits n h (fewer n h there);
          room = steady.room;
          none_due = steady.none_due;
          in_time = λ n h there. steady.in_time n h (fewer n h there);
        }

-- ---- opened, if memory was there

same_ready : (d : Dispatcher) (wires : Wires) → IsDispatcherReady d → wires_in wires ≡ wires_in d.wires
    → IsDispatcherReady (record d { wires = wires })
same_ready d wires ready same = ready_wires d wires ready (same_sound d wires ready.sound same)

-- with other entries, for which there is as much room
pub begun_ready : (d : Dispatcher) (wires : Wires) (entries : Vec Entry) → IsDispatcherReady d
    → wires_in wires ≡ wires_in d.wires → 1 ≤ vec_capacity entries
    → IsDispatcherReady (record d { wires = wires; entries = entries })
begun_ready d wires entries ready same room =
    let other = same_ready d wires ready same in
    record {
      sound = record {
        book = ready.sound.book;
        patient = ready.sound.patient;
        limits = ready.sound.limits;
        subscribers_owe = other.sound.subscribers_owe;
        owers_hear = other.sound.owers_hear;
        tellable = ready.sound.tellable;
      };
      waits = ready.waits;
      room = room;
      none_freed = ready.none_freed;
    }

pub maybe_opened : {E : Type 0} → (d : Dispatcher) (wires : Wires) (result : Result ℕ E) → IsDispatcherReady d
    → IfOk result (λ connection. OpensWire (wires_in d.wires) connection (wires_in wires))
    → OnErr result (wires_in wires ≡ wires_in d.wires) → IsDispatcherReady (record d { wires = wires })
maybe_opened d wires (Ok connection) ready opens refused = opened_ready d wires connection ready opens
maybe_opened d wires (Err e) ready opens refused = same_ready d wires ready refused
