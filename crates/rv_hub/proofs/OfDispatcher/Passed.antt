-- Time goes on: what it leaves of a dispatcher, and all whom it ends are told.
use Rattle.std.proofs.Common.{inl, inr, ◌≡◌, ◌≤◌, ◌∙◌, ◌++◌, ◌∷◌, ◌⊎◌, ℕ, List, [], refl, sym, ap, subst}
use Rattle.std.proofs.Common.{arith, append_assoc, max}
use Rattle.std.specs.Prelude.{flat_map, option_to_list, vec_capacity}
use Rattle.std.specs.Global.{Vec}
use Rattle.std.proofs.lemmas.List.{append-nil}
use Rattle.std.proofs.lemmas.Grind.{flat_map-append}
use Rattle.rv_account.specs.declared.entry.Entry.{Entry}
use Rattle.rv_account.specs.rules.Steps.{max_moment}
use Rattle.rv_account.specs.state.State.{State}
use Rattle.rv_account.specs.state.After.{due_at}
use Rattle.rv_account.specs.state.Moves.{state_moment, ticked_at}
use Rattle.rv_account.specs.state.resume.Resuming.{CanResume}
use Rattle.rv_machine.specs.declared.machine.Machine.{Machine}
use Rattle.rv_machine.specs.declared.steps.TickMade.{TickMade}
use Rattle.rv_machine.specs.Machines.{keys_settled, state_in}
use Rattle.rv_machine.specs.Stepping.{IsTick}
use Rattle.rv_account.specs.state.waiting.Waiting.{WaitsOn}
use Rattle.rv_account.proofs.OfState.OfWaiting.WaitingLaws.{ticks_last}
use Rattle.rv_server_connections.specs.declared.subscribers.tables.Subscription.{Subscription}
use Rattle.rv_hub.specs.declared.dispatcher.Dispatcher.{Dispatcher}
use Rattle.rv_hub.specs.dispatcher.View.{moment_now}
use Rattle.rv_hub.specs.dispatcher.Telling.{IsTellable}
use Rattle.rv_hub.specs.dispatcher.Effects.{Effect, entries_of_effect, told_of_effect, told_in_effects}
use Rattle.rv_hub.specs.dispatcher.Order.{TellsKeys, TellsOverdue, TellsStillWaiting}
use Rattle.rv_hub.specs.dispatcher.Rest.{SubscribersInTime, SubscribersWait}
use Rattle.rv_hub.specs.dispatcher.Fields.{IsDispatcherReady, IsDispatcherSound, IsSteady, dispatcher_state}
use Rattle.rv_hub.specs.dispatcher.Fields.{dispatcher_terms}
use Rattle.rv_hub.specs.dispatcher.Going.{ElapsesIt, IsAmongKeys, PassesIt, StillGoes, TellsLate, TellsThem}
use Rattle.rv_hub.proofs.OfDispatcher.Quiet.{keys_quiet}
use Rattle.rv_hub.proofs.OfDispatcher.Stepped.{sound_with, tellable_after, waits_or_listed}
use Rattle.rv_hub.proofs.OfDispatcher.Striding.{settled_told}

-- ---- time alone

pub elapsed_moment : (s : State) (now latest handed : ℕ) → s.moment ≤ latest → latest ≤ max_moment
    → now ≡ max handed latest → state_moment s now ≡ moment_now latest handed
elapsed_moment s now latest handed later time is = omega arith

pub elapsed : (old : Dispatcher) (m : Machine) (now handed : ℕ) (made : TickMade) (entries : Vec Entry)
    → IsDispatcherReady old
    → now ≡ moment_now old.latest handed → made.moment ≡ now → now ≤ max_moment
    → IsTick old.machine m made → entries.items ≡ old.entries.items ++ option_to_list made.entry
    → old.entries.items ≡ [] → vec_capacity old.entries ≤ vec_capacity entries
    → IsDispatcherSound (record old { machine = m; latest = now; entries = entries })
    × ElapsesIt old handed (record old { machine = m; latest = now; entries = entries })
    × StillGoes old (record old { machine = m; latest = now; entries = entries })
elapsed old m now handed made entries ready is moment time tick laid begun room =
    let s = state_in old.machine in
    let sound = ready.sound in
    let from : old.latest ≤ now = let e = is in (omega arith) in
    let later : s.moment ≤ now = let l = sound.book.later in omega arith in
    let last = ticks_last s now sound.book.resumes later time in
    let ticked : state_in m ≡ (ticked_at s now).after = tick.after ∙ ap (λ n. (ticked_at s n).after) moment in
    let keys : m.settled.items ≡ keys_settled (ticked_at s now).settles =
    tick.settles ∙ ap (λ n. keys_settled (ticked_at s n).settles) moment in
    let new = record old { machine = m; latest = now; entries = entries } in (
      sound_with old m now entries sound (record {
        resumes = subst (λ (t : State). CanResume t) (sym ticked) last.resumes;
        later = subst (λ (t : State). t.moment ≤ now) (sym ticked) last.in_time;
        time = time;
      }) (λ connection h there.
          subst (λ (t : State). IsTellable t h.key) (sym ticked)
          (tellable_after s (ticked_at s now).after (ticked_at s now).settles now h.key sound.book.resumes
          last
          (ready.waits connection h there))),
      record {
        now = is;
        entries = laid ∙ ap (λ l. l ++ option_to_list made.entry) begun ∙ tick.makes
            ∙ ap (λ n. (ticked_at s n).entries) moment;
        settles = keys;
        after = ticked;
        rest = refl;
      },
      record {
        waits = λ connection h there.
            subst (λ (t : State). WaitsOn t h.key ⊎ IsAmongKeys m.settled.items h.key) (sym ticked)
            (waits_or_listed s (ticked_at s now).after (ticked_at s now).settles now h.key m.settled.items
            keys last
            (ready.waits connection h there));
        none_due = subst (λ (t : State). due_at t now ≡ []) (sym ticked) last.none_due;
        room = room;
      },
    )

-- ---- and whom it ends

late_quiet : (subscribers : List (ℕ × Subscription)) (effects : List Effect)
    → TellsStillWaiting subscribers effects
    → flat_map entries_of_effect effects ≡ []
late_quiet [] effects none = ap (λ ds. flat_map entries_of_effect ds) none
late_quiet (h ∷ subscribers) [] tells = absurd tells
late_quiet (h ∷ subscribers) (effect ∷ effects) (one, each) =
    let first : entries_of_effect effect ≡ [] = elim one [
      | inl told ↦ ap entries_of_effect told
      | inr closed ↦ ap
          entries_of_effect closed
    ] in
    ap (λ l. l ++ flat_map entries_of_effect effects) first ∙ late_quiet subscribers effects each

pub passed : (d0 d1 d2 d3 : Dispatcher) (handed : ℕ) → IsDispatcherReady d0 → d0.entries.items ≡ []
    → ElapsesIt d0 handed d1
    → StillGoes d0 d1 → TellsThem d1 d1.machine.settled.items d2 → SubscribersWait (dispatcher_state d2)
    → IsDispatcherSound d3 → TellsLate d2 d3 → SubscribersInTime (dispatcher_state d3)
    → SubscribersWait (dispatcher_state d3)
    → IsSteady d3 × PassesIt d0 handed d3
passed d0 d1 d2 d3 handed ready begun elapses still tells waits2 sound late in_time waits3 =
    let s = state_in d0.machine in
    let r1 = elapses.rest in
    let r2 = tells.goes.rest in
    let r3 = late.goes.rest in
    let terms1 : dispatcher_terms d1 ≡ dispatcher_terms d0 = ap dispatcher_terms r1 in
    let terms2 : dispatcher_terms d2 ≡ dispatcher_terms d0 = ap dispatcher_terms r2 ∙ terms1 in
    let r13 : d3 ≡ record d1 { wires = d3.wires; subscribers = d3.subscribers; freed = d3.freed } =
    r3 ∙ ap (λ (d : Dispatcher). record d {
      wires = d3.wires;
      subscribers = d3.subscribers;
      freed =
          d3.freed;
    }) r2 in
    let state1 : dispatcher_state d1 ≡ record (dispatcher_state d0) {
      now = d1.latest;
      book =
          (ticked_at s d1.latest).after;
    } =
    ap dispatcher_state r1 ∙ ap (λ b. record (dispatcher_state d0) { now = d1.latest; book = b })
    elapses.after in
    let moment = moment_now d0.latest handed in
    let entries = (ticked_at s moment).entries in
    let settled = keys_settled (ticked_at s moment).settles in
    let keys : d1.machine.settled.items ≡ settled =
    elapses.settles ∙ ap (λ n. keys_settled (ticked_at s n).settles) elapses.now in
    let telling : TellsKeys (dispatcher_terms d0) (dispatcher_state d1) settled tells.effects
    (dispatcher_state d2) =
    subst (λ ks. TellsKeys (dispatcher_terms d0) (dispatcher_state d1) ks tells.effects (dispatcher_state d2))
    keys
    (subst (λ t. TellsKeys t (dispatcher_state d1) d1.machine.settled.items tells.effects
    (dispatcher_state d2)) terms1
    tells.tells) in
    let overdue = subst (λ t. TellsOverdue t (dispatcher_state d2) late.effects (dispatcher_state d3)) terms2
    late.tells in
    let quiet = keys_quiet (dispatcher_terms d0) (dispatcher_state d1) (dispatcher_state d2) settled
    tells.effects telling in
    let quiet2 = late_quiet overdue.subscribers late.effects overdue.each in
    let none : flat_map entries_of_effect (tells.effects ++ late.effects) ≡ [] =
    flat_map-append entries_of_effect tells.effects late.effects ∙ ap (λ l. l ++ flat_map entries_of_effect
    late.effects) quiet.0
    ∙ quiet2 in
    let more = still.room in
    let least = ready.room in
    let roomy : 1 ≤ vec_capacity d1.entries = omega arith in
    let made : d3.entries.items ≡ entries =
    ap (λ (d : Dispatcher). d.entries.items) r13 ∙ elapses.entries ∙ ap (λ n. (ticked_at s n).entries)
    elapses.now in (
      record {
        sound = sound;
        waits = waits3;
        room = subst (λ (d : Dispatcher). 1 ≤ vec_capacity d.entries) (sym r13) roomy;
        none_due = subst (λ (d : Dispatcher). due_at (state_in d.machine) d.latest ≡ []) (sym r13)
            still.none_due;
        in_time = in_time;
      },
      record {
        entries = entries;
        settled = settled;
        ended = tells.effects;
        between = dispatcher_state d2;
        time = record {
          between = dispatcher_state d1;
          does = record {
            later = let e = elapses.now in (omega arith);
            entries_are = refl;
            settled_are = refl;
            after = state1 ∙ ap (λ n. record (dispatcher_state d0) { now = n; book = (ticked_at s n).after })
                elapses.now;
          };
          told = telling;
        };
        overdue = late.effects;
        tells = overdue;
        goes = record {
          made = made ∙ sym (append-nil entries) ∙ ap (λ l. entries ++ l) (sym none)
              ∙ ap (λ l. l ++ (entries ++ flat_map entries_of_effect (tells.effects ++ late.effects)))
              (sym begun);
          freed = late.goes.freed ∙ ap (λ l. l ++ told_in_effects late.effects) tells.goes.freed
              ∙ ap (λ (f : List ℕ). (f ++ told_in_effects tells.effects) ++ told_in_effects late.effects)
              (ap (λ (d : Dispatcher). d.freed.items) r1)
              ∙ append_assoc d0.freed.items (told_in_effects tells.effects) (told_in_effects late.effects)
              ∙ ap (λ l. d0.freed.items ++ l) (sym (flat_map-append told_of_effect tells.effects
              late.effects));
          terms = ap dispatcher_terms r3 ∙ terms2;
        };
      },
    )

-- whoever waits afterwards does so for a request that waits
pub passed_waits : (d0 d1 d2 : Dispatcher) (handed : ℕ) → ElapsesIt d0 handed d1 → StillGoes d0 d1
    → TellsThem d1 d1.machine.settled.items d2 → SubscribersWait (dispatcher_state d2)
passed_waits d0 d1 d2 handed elapses still tells =
    settled_told (dispatcher_terms d1) (dispatcher_state d1) (dispatcher_state d2) d1.machine.settled.items
    tells.effects
    (ap (λ (d : Dispatcher). (dispatcher_state d).book) tells.goes.rest) tells.tells still.waits
