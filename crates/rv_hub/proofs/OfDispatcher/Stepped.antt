-- What a step of the machine leaves of a dispatcher.
use Rattle.std.proofs.Common.{inl, inr, ◌≡◌, ◌≤◌, ◌∙◌, ◌++◌, ◌⊎◌, ℕ, List, [], Some, refl, sym, ap, subst}
use Rattle.std.specs.Prelude.{option_to_list, vec_capacity}
use Rattle.std.specs.Global.{Vec}
use Rattle.rv_text.specs.declared.message.Key.{Key}
use Rattle.rv_text.specs.declared.message.Message.{Message}
use Rattle.rv_text.specs.Limits.{FitsMessage}
use Rattle.rv_account.specs.declared.entry.Entry.{Entry}
use Rattle.rv_account.specs.state.State.{State}
use Rattle.rv_account.specs.state.After.{Settled, due_at}
use Rattle.rv_account.specs.state.resume.Resuming.{CanResume}
use Rattle.rv_machine.specs.declared.machine.Machine.{Machine}
use Rattle.rv_machine.specs.declared.steps.Heard.{Heard}
use Rattle.rv_machine.specs.Machines.{keys_settled, state_in}
use Rattle.rv_machine.specs.Stepping.{IsHearing}
use Rattle.rv_server_connections.specs.declared.subscribers.tables.Subscription.{Subscription}
use Rattle.rv_server_connections.specs.subscribers.Subscribers.{subscribers_of}
use Rattle.rv_hub.specs.declared.dispatcher.Dispatcher.{Dispatcher}
use Rattle.rv_hub.specs.dispatcher.Telling.{IsTellable, WaitsOn}
use Rattle.rv_hub.specs.dispatcher.Fields.{IsBook, IsDispatcherSound, IsSteady, dispatcher_terms}
use Rattle.rv_hub.specs.dispatcher.Going.{IsAmongKeys, StepsIt, StillGoes}
use Rattle.rv_account.specs.state.waiting.Laws.{LeavesNoneDue}
use Rattle.rv_account.proofs.OfState.OfWaiting.WaitingLaws.{moves_answer, moves_last, waiting_fits}

-- a request that waited can be told after the step
pub tellable_after : (s after : State) (settles : List Settled) (moment : ℕ) (key : Key) → CanResume s
    → LeavesNoneDue s moment after settles → WaitsOn s key → IsTellable after key
tellable_after s after settles moment key resumes last waits =
    let fits = waiting_fits s key resumes waits in
    elim (last.just.waits key waits) [
      | inl still ↦ record {
        fits = fits;
        epoch = still.epoch;
        session = still.session;
        there = still.there;
        last = inl (still.incarnation, still.last);
      }
      | inr over ↦ record {
        fits = fits;
        epoch = over.0.epoch;
        session = over.0.session;
        there = over.0.there;
        last = elim over.0.over [ inl told ↦ inl (told.0, told.1) | inr less ↦ inr less ];
      }
    ]

-- it waits still, or is listed
pub waits_or_listed : (s after : State) (settles : List Settled) (moment : ℕ) (key : Key) (keys : List Key)
    → keys ≡ keys_settled settles → LeavesNoneDue s moment after settles → WaitsOn s key
    → WaitsOn after key ⊎ IsAmongKeys keys key
waits_or_listed s after settles moment key keys listed last waits =
    elim (last.just.waits key waits) [
      | inl still ↦ inl still
      | inr over ↦ inr (subst (λ ks. IsAmongKeys ks key) (sym listed) over.1)
    ]

-- a dispatcher with another machine
pub sound_with : (old : Dispatcher) (m : Machine) (now : ℕ) (entries : Vec Entry) → IsDispatcherSound old
    → IsBook m now
    → ((connection : ℕ) (subscription : Subscription) → subscribers_of old.subscribers connection ≡ Some
    subscription
    → IsTellable (state_in m) subscription.key)
    → IsDispatcherSound (record old { machine = m; latest = now; entries = entries })
sound_with old m now entries sound book tellable = record {
  book = book;
  patient = sound.patient;
  limits = sound.limits;
  subscribers_owe = sound.subscribers_owe;
  owers_hear = sound.owers_hear;
  tellable = tellable;
}

pub stepped : (old : Dispatcher) (m : Machine) (entries : Vec Entry) (message : Message) (made : Heard)
    → IsSteady old
    → FitsMessage message
    → IsHearing (dispatcher_terms old).limits old.machine m old.latest message made
    → entries.items ≡ old.entries.items ++ option_to_list made.entry
    → vec_capacity old.entries ≤ vec_capacity entries
    → IsDispatcherSound (record old { machine = m; entries = entries })
    × StepsIt old message made.said (record old { machine = m; entries = entries })
    × StillGoes old (record old { machine = m; entries = entries })
stepped old m entries message made steady fits subscription laid room =
    let s = state_in old.machine in
    let move = subscription.move in
    let last = moves_last (dispatcher_terms old).limits s old.latest message move steady.sound.limits
    steady.sound.book.resumes
    steady.none_due steady.sound.book.later steady.sound.book.time fits subscription.moves in
    let well = moves_answer (dispatcher_terms old).limits s old.latest message move steady.sound.limits
    steady.sound.book.resumes steady.none_due steady.sound.book.later steady.sound.book.time fits
    subscription.moves in
    let after = subscription.after in (
      sound_with old m old.latest entries steady.sound (record {
        resumes = subst (λ (t : State). CanResume t) (sym after) last.resumes;
        later = subst (λ (t : State). t.moment ≤ old.latest) (sym after) last.in_time;
        time = steady.sound.book.time;
      }) (λ connection h there.
          subst (λ (t : State). IsTellable t h.key) (sym after)
          (tellable_after s move.after move.settles old.latest h.key steady.sound.book.resumes last
          (steady.waits connection h there))),
      record {
        move = move;
        moves = subscription.moves;
        entries = laid ∙ ap (λ l. old.entries.items ++ l) subscription.makes;
        says = subscription.says;
        may_say = record {
          fits = well.fits;
          waits = λ key says. subst (λ (t : State). WaitsOn t key) (sym after) (well.waits key says);
        };
        settles = subscription.settles;
        after = after;
        rest = refl;
      },
      record {
        waits = λ connection h there.
            subst (λ (t : State). WaitsOn t h.key ⊎ IsAmongKeys m.settled.items h.key) (sym after)
            (waits_or_listed s move.after move.settles old.latest h.key m.settled.items subscription.settles
            last
            (steady.waits connection h there));
        none_due = subst (λ (t : State). due_at t old.latest ≡ []) (sym after) last.none_due;
        room = room;
      },
    )
