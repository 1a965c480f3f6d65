-- A call that only lends the room of texts, or takes it back, changes nothing else.
use Rattle.std.proofs.Common.{inl, inr, ◌≡◌, ◌∙◌, ℕ, List, refl, sym, ap, ap₂, subst, arith}
use Rattle.std.proofs.Common.{Err, IfOk, Ok, OnErr, Result, length}
use Rattle.rv_server_connections.specs.Connections.{HasWire, Tally, WiresState}
use Rattle.rv_text.specs.Bodies.{answer_text}
use Rattle.rv_text.specs.declared.answer.Answer.{Answer}
use Rattle.rv_text.specs.declared.answer.Answer.TheVariants.{Refused}
use Rattle.rv_text.specs.declared.answer.Refusal.TheVariants.{NoMemory}
use Rattle.rv_machine.specs.Machines.{state_in}
use Rattle.rv_server_connections.specs.connection.Traffic.{IsDue}
use Rattle.rv_server_connections.specs.declared.subscribers.Subscribers.{Subscribers}
use Rattle.rv_server_connections.specs.subscribers.Subscribers.{subscribers_count}
use Rattle.rv_hub.specs.declared.dispatcher.Dispatcher.{Dispatcher}
use Rattle.rv_hub.specs.dispatcher.View.{DispatcherState}
use Rattle.rv_hub.specs.dispatcher.Effects.{AnswersNow, DoesClose, IsDueWith, rests_on}
use Rattle.rv_hub.specs.dispatcher.Fields.{IsDispatcherSound, dispatcher_state}
use Rattle.rv_hub.specs.dispatcher.Rest.{SubscribersOwe, OwersHear}
use Rattle.rv_hub.specs.dispatcher.Going.{AnswersIt, HasDue, IsFrameDue, IsSameButRoom, LacksIt, SaysText}
use Rattle.rv_hub.specs.dispatcher.Going.{unread_at, unread_of, unread_total}
use Rattle.rv_hub.proofs.OfDispatcher.Saying.{text_lacked, text_said}

module _ (old new : Dispatcher) (same : IsSameButRoom old new) where
  pub same_state : dispatcher_state new ≡ dispatcher_state old
  same_state =
      ap dispatcher_state same.rest
      ∙ ap₂ (λ (w : WiresState) (t : Tally). record (dispatcher_state old) {
        open_wires = w;
        changed =
            t.changed;
      })
      same.wires same.tally

  pub still_sound : IsDispatcherSound old → IsDispatcherSound new
  still_sound sound =
      let moved : IsDispatcherSound (record old { wires = new.wires }) = record {
        book = sound.book;
        patient = sound.patient;
        limits = sound.limits;
        subscribers_owe = subst (λ (w : WiresState). SubscribersOwe (record (dispatcher_state old)
            { open_wires = w }))
            (sym same.wires) sound.subscribers_owe;
        owers_hear = subst (λ (w : WiresState). OwersHear (record (dispatcher_state old) { open_wires = w }))
            (sym same.wires) sound.owers_hear;
        tellable = sound.tellable;
      } in
      subst IsDispatcherSound (sym same.rest) moved

  pub still_due : (connection : ℕ) → HasDue old connection → HasDue new connection
  still_due connection due = subst (λ (w : WiresState). HasWire w connection IsDue) (sym same.wires) due

-- a frame is answered all the same
pub answered_in_room : (old mid after last : Dispatcher) (connection entries : ℕ) (text : List ℕ)
    → IsSameButRoom old mid → AnswersIt mid connection entries text after → IsSameButRoom after last
    → AnswersIt old connection entries text last
answered_in_room old mid after last connection entries text first answers second =
    let from = same_state old mid first in
    let to = sym (same_state after last second) in
    let subscribers : last.subscribers ≡ after.subscribers = ap (λ (d : Dispatcher). d.subscribers)
    second.rest in
    let as_many : subscribers_count last.subscribers ≡ subscribers_count after.subscribers =
    ap subscribers_count subscribers in
    let as_free : length last.freed.items ≡ length after.freed.items =
    ap (λ (d : Dispatcher). length d.freed.items) second.rest in
    let were_many : subscribers_count mid.subscribers ≡ subscribers_count old.subscribers =
    ap (λ (d : Dispatcher). subscribers_count d.subscribers) first.rest in
    let were_free : length mid.freed.items ≡ length old.freed.items =
    ap (λ (d : Dispatcher). length d.freed.items) first.rest in
    let unread : unread_total last.wires ≡ unread_total after.wires = ap (λ (t : Tally). t.unread)
    second.tally
    in
    let were_unread : unread_total mid.wires ≡ unread_total old.wires =
    ap (λ (t : Tally). t.unread) first.tally in
    let here : unread_at last connection ≡ unread_at after connection =
    ap (λ (w : WiresState). unread_of (w.wires connection)) second.wires in
    let was_here : unread_at mid connection ≡ unread_at old connection =
    ap (λ (w : WiresState). unread_of (w.wires connection)) first.wires in
    let work = answers.takes.work in
    let had = answers.takes.had in
    let emptied = answers.takes.emptied in
    record {
      did = λ body asked.
          let due : IsFrameDue mid connection body = record {
            frame = subst (λ (w : WiresState). HasWire w connection (λ wire. IsDueWith wire body))
                (sym first.wires) asked.frame;
          } in
          elim (answers.did body due) [
            | inl now ↦ inl (subst (λ (s : DispatcherState). AnswersNow s connection body entries text
                (dispatcher_state last)) from
                (subst (λ (t : DispatcherState). AnswersNow (dispatcher_state mid) connection body entries
                text t) to
                now))
            | inr closed ↦ inr (subst (λ (s : DispatcherState). DoesClose s connection
                (dispatcher_state last)) from
                (subst (λ (t : DispatcherState). DoesClose (dispatcher_state mid) connection t) to closed))
          ];
      takes = record {
        rest =
            second.rest
            ∙ ap (λ (d : Dispatcher). record d { wires = last.wires }) answers.takes.rest
            ∙ ap (λ (d : Dispatcher). record d { wires = last.wires; subscribers = after.subscribers })
            first.rest
            ∙ ap (λ (h : Subscribers). record old { wires = last.wires; subscribers = h }) (sym subscribers);
        work = omega arith;
        had = omega arith;
        emptied = omega arith;
      };
    }

-- or that memory lacks
pub lacked_in_room : (old mid new : Dispatcher) (connection : ℕ) → IsSameButRoom old mid
    → LacksIt mid connection new → LacksIt old connection new
lacked_in_room old mid new connection first lacks =
    answered_in_room old mid new new connection 0 (answer_text (Refused NoMemory)) first lacks
    (record { wires = refl; tally = refl; rest = refl })

-- by a text, if there is one
pub said_in_room : (old mid new : Dispatcher) (connection entries : ℕ) (text : List ℕ) → IsSameButRoom old mid
    → AnswersIt mid connection entries text new → AnswersIt old connection entries text new
said_in_room old mid new connection entries text first answers =
    answered_in_room old mid new new connection entries text first answers
    (record { wires = refl; tally = refl; rest = refl })

-- by an answer's text, or that memory lacks
pub text_in_room : {T E : Type 0} (bytes : T → List ℕ) (written : Result T E) (old mid new : Dispatcher)
    (connection entries : ℕ) (a : Answer) → IsSameButRoom old mid
    → entries ≡ rests_on a (state_in mid.machine).length → IfOk written (λ t. bytes t ≡ answer_text a)
    → IfOk written (λ t. AnswersIt mid connection entries (bytes t) new)
    → OnErr written (LacksIt mid connection new) → SaysText old connection a new
text_in_room bytes (Ok t) old mid new connection entries a first count is answers lacks =
    let rests : entries ≡ rests_on a (state_in old.machine).length =
    count ∙ ap (λ (d : Dispatcher). rests_on a (state_in d.machine).length) first.rest in
    text_said old connection a (bytes t) new is
    (subst (λ n. AnswersIt old connection n (bytes t) new) rests
    (said_in_room old mid new connection entries (bytes t) first answers))
text_in_room bytes (Err e) old mid new connection entries a first count is answers lacks =
    text_lacked old connection a new (lacked_in_room old mid new connection first lacks)
