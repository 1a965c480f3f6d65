-- The frame that is due is taken and answered, or its connection closed.
use Rattle.std.proofs.Common.{inl, inr, ◌≡◌, ◌+◌, ◌≤◌, ◌∙◌, ℕ, List, None, Option, Some, refl, sym, ap, subst}
use Rattle.std.proofs.Common.{arith, length}
use Rattle.std.specs.Prelude.{IsSome}
use Rattle.std.proofs.lemmas.Bool.{cases_eq, false≢true}
use Rattle.std.proofs.lemmas.List.{length-append}
use Rattle.rv_text.specs.declared.message.Key.{Key}
use Rattle.rv_frame.specs.Cut.{length_bytes}
use Rattle.rv_machine.specs.Machines.{state_in}
use Rattle.rv_server_connections.specs.connection.Traffic.{IsDue, Traffic}
use Rattle.rv_server_connections.specs.connection.Steps.{AnswersBy, taken}
use Rattle.rv_account.specs.state.waiting.Waiting.{WaitsOn}
use Rattle.rv_account.proofs.OfState.OfWaiting.WaitingLaws.{waiting_fits}
use Rattle.rv_server_connections.specs.declared.subscribers.Subscribers.{Subscribers}
use Rattle.rv_server_connections.specs.declared.subscribers.tables.Subscription.{Subscription}
use Rattle.rv_server_connections.specs.subscribers.Subscription.{SetsSubscription, WhoHears}
use Rattle.rv_server_connections.specs.subscribers.Subscribers.{subscribers_count, subscribers_of}
use Rattle.rv_server_connections.specs.Connections.{ChangesWire, SetsWire, WiresState}
use Rattle.rv_server_connections.specs.Wires.{tally_in, wires_in}
use Rattle.rv_server_connections.specs.declared.wires.Wires.{Wires}
use Rattle.rv_hub.specs.declared.dispatcher.Dispatcher.{Dispatcher}
use Rattle.rv_hub.specs.dispatcher.Telling.{IsTellable}
use Rattle.rv_hub.specs.dispatcher.Effects.{DoesClose}
use Rattle.rv_hub.specs.dispatcher.Fields.{IsDispatcherSound, dispatcher_state}
use Rattle.rv_hub.specs.dispatcher.Going.{AnswersIt, HasDue, NotesOne, WaitsIt, unread_at, unread_of}
use Rattle.rv_hub.specs.dispatcher.Going.{unread_total}
use Rattle.rv_hub.proofs.OfDispatcher.Noting.{closed_unread, lists_again, notes_behind}
use Rattle.rv_hub.proofs.OfDispatcher.Owing.{Agree, hears_kept, owes_kept}
use Rattle.rv_hub.proofs.OfDispatcher.ToldOne.{not_open, not_owing, owing_waits}

pub some_is : {X : Type 0} → (x y : X) → Some x ≡ Some y → x ≡ y
some_is x y same = cc

-- ---- two changes of one connection

pub sets_again : (a b c : WiresState) (connection : ℕ) (one other : Option Traffic)
    → SetsWire a connection one b
    → SetsWire b connection other c → SetsWire a connection other c
sets_again a b c connection one other first second = record {
  own = second.own;
  others = λ n apart. second.others n apart ∙ first.others n apart;
  written = second.written ∙ first.written;
  released = second.released ∙ first.released;
}

-- ---- the connection whose frame is due

pub due_length : (wire : Traffic) → IsDue wire → 3 ≤ length wire.unread
due_length wire due =
    let body = due.whole.body in
    let fits = due.whole.fits in
    let long : length wire.unread ≡ 2 + length body = ap length due.whole.frame ∙ length-append
    (length_bytes (length body)) body in
    let least = fits.0 in
    omega arith

pub not_some : {X : Type 0} → (o : Option X) → ((x : X) → o ≡ Some x → ⊥) → o ≡ None
not_some None none = refl
not_some (Some x) none = absurd (none x refl)

-- it owes nothing, so it waits for nothing
pub not_subscription : (d : Dispatcher) (connection : ℕ) → IsDispatcherSound d → HasDue d connection
    → subscribers_of d.subscribers connection ≡ None
not_subscription d connection sound due =
    not_some (subscribers_of d.subscribers connection) (λ subscription there.
    let owing = sound.subscribers_owe connection subscription there in
    let same = some_is due.wire owing.wire (sym due.there ∙ owing.there) in
    false≢true (sym due.so.none_owed ∙ ap (λ (t : Traffic). t.owes) same ∙ owing.so))

pub hears_same : (who : WhoHears) (connection : ℕ) (o : Option Subscription) → who connection ≡ o
    → SetsSubscription who connection o who
hears_same who connection o is = record { own = is; others = λ other apart. refl }

-- other bytes of one connection: the dispatcher stays sound where they agree with what it waits for
pub sound_wire : (d : Dispatcher) (wires : Wires) (connection : ℕ) (wire : Option Traffic)
    → IsDispatcherSound d
    → SetsWire (wires_in d.wires) connection wire (wires_in wires)
    → Agree wire (subscribers_of d.subscribers connection) → IsDispatcherSound (record d { wires = wires })
sound_wire d wires connection wire sound sets agree =
    let hears = hears_same (subscribers_of d.subscribers) connection (subscribers_of d.subscribers connection)
    refl in
    record {
      book = sound.book;
      patient = sound.patient;
      limits = sound.limits;
      subscribers_owe = owes_kept (dispatcher_state d) (dispatcher_state (record d { wires = wires }))
          connection wire
          (subscribers_of d.subscribers connection) sound.subscribers_owe sets hears agree;
      owers_hear = hears_kept (dispatcher_state d) (dispatcher_state (record d { wires = wires })) connection
          wire
          (subscribers_of d.subscribers connection) sound.owers_hear sets hears agree;
      tellable = sound.tellable;
    }

-- ---- the frame is taken

-- its bytes are read no more
pub record FrameTaken (d : Dispatcher) (connection : ℕ) (wires : Wires) : Type 0 where
  pub due : HasDue d connection
  pub takes : ChangesWire (wires_in d.wires) connection (λ wire after. after ≡ taken wire) (wires_in wires)
  pub noted : NotesOne d.wires connection wires

pub had_unread : (d : Dispatcher) (connection : ℕ) → HasDue d connection → 3 ≤ unread_at d connection
had_unread d connection due =
    let long = due_length due.wire due.so in
    let was = ap unread_of due.there in
    omega arith

pub less_unread : (d : Dispatcher) (connection : ℕ) (wires : Wires) → FrameTaken d connection wires
    → unread_total wires + 3 ≤ unread_total d.wires
less_unread d connection wires taking =
    let count : unread_total wires + unread_of ((wires_in d.wires).wires connection)
    ≡ unread_total d.wires + unread_of ((wires_in wires).wires connection) = taking.noted.unread in
    let long = due_length taking.due.wire taking.due.so in
    let before : unread_of ((wires_in d.wires).wires connection) ≡ length taking.due.wire.unread =
    ap unread_of taking.due.there in
    let behind : unread_of ((wires_in wires).wires connection) ≡ 0 =
    ap unread_of taking.takes.sets.own ∙ ap (λ (t : Traffic). length t.unread) taking.takes.changes in
    omega arith

pub closed_behind : (d : Dispatcher) (connection : ℕ) (one wires : Wires) → IsDispatcherSound d
    → HasDue d connection
    → (first : Option Traffic) → SetsWire (wires_in d.wires) connection first (wires_in one)
    → NotesOne d.wires connection one → SetsWire (wires_in one) connection None (wires_in wires)
    → NotesOne one connection wires → IsDispatcherSound (record d { wires = wires })
    × DoesClose (dispatcher_state d) connection (dispatcher_state (record d { wires = wires }))
    × (unread_at (record d { wires = wires }) connection ≡ 0)
closed_behind d connection one wires sound due first sets noted cut noted_cut =
    let both = sets_again (wires_in d.wires) (wires_in one) (wires_in wires) connection first None sets cut in
    let none = not_subscription d connection sound due in (
      sound_wire d wires connection None sound both
          (subst (λ o. Agree None o) (sym none) not_open),
      record {
        there = record { wire = due.wire; there = due.there; so = tt };
        sets = both;
        lists = lists_again (tally_in d.wires).changed (tally_in one).changed (tally_in wires).changed
            connection
            noted.changed noted_cut.changed;
        hears = hears_same (subscribers_of d.subscribers) connection None none;
        rest = refl;
      },
      ap unread_of both.own,
    )

-- ---- or it is answered at once

pub answered_it : (d : Dispatcher) (connection entries : ℕ) (text : List ℕ) (wires : Wires)
    → IsDispatcherSound d → HasDue d connection
    → ChangesWire (wires_in d.wires) connection
    (λ wire after. AnswersBy (wires_in d.wires).written (taken wire) entries text after) (wires_in wires)
    → NotesOne d.wires connection wires
    → IsDispatcherSound (record d { wires = wires }) × AnswersIt d connection entries text
    (record d { wires = wires })
answered_it d connection entries text wires sound due answers noted =
    let count : unread_total wires + unread_of ((wires_in d.wires).wires connection)
    ≡ unread_total d.wires + unread_of ((wires_in wires).wires connection) = noted.unread in
    let none = not_subscription d connection sound due in
    let had = had_unread d connection due in
    let emptied : unread_of ((wires_in wires).wires connection) ≡ 0 =
    ap unread_of answers.sets.own ∙ ap (λ (t : Traffic). length t.unread) answers.changes.goes in (
      sound_wire d wires connection (Some answers.after) sound answers.sets
          (subst (λ o. Agree (Some answers.after) o) (sym none)
          (not_owing answers.after (ap (λ (t : Traffic). t.owes) answers.changes.goes))),
      record {
        did = λ body asked. inl (record {
          frame = asked.frame;
          answers = record {
            changes = record {
              wire = answers.wire;
              after = answers.after;
              there = answers.there;
              changes = answers.changes;
              sets = answers.sets;
            };
            lists = noted.changed;
            rest = refl;
          };
        });
        takes = record { rest = refl; work = omega arith; had = had; emptied = emptied };
      },
    )

pub not_answered : (d : Dispatcher) (connection entries : ℕ) (text : List ℕ) (two wires : Wires)
    → IsDispatcherSound d → HasDue d connection
    → wires_in two ≡ wires_in d.wires → tally_in two ≡ tally_in d.wires
    → SetsWire (wires_in two) connection None (wires_in wires) → NotesOne two connection wires
    → IsDispatcherSound (record d { wires = wires }) × AnswersIt d connection entries text
    (record d { wires = wires })
not_answered d connection entries text two wires sound due same tally cut noted =
    let cut_old = subst (λ w. SetsWire w connection None (wires_in wires)) same cut in
    let noted_old = notes_behind d.wires two wires connection same tally noted in
    let count : unread_total wires + unread_of ((wires_in d.wires).wires connection)
    ≡ unread_total d.wires + unread_of ((wires_in wires).wires connection) = noted_old.unread in
    let none = not_subscription d connection sound due in
    let had = had_unread d connection due in
    let emptied : unread_of ((wires_in wires).wires connection) ≡ 0 = ap unread_of cut_old.own in (
      sound_wire d wires connection None sound cut_old (subst (λ o. Agree None o) (sym none) not_open),
      record {
        did = λ body asked. inr (record {
          there = record { wire = due.wire; there = due.there; so = tt };
          sets = cut_old;
          lists = noted_old.changed;
          hears = hears_same (subscribers_of d.subscribers) connection None none;
          rest = refl;
        });
        takes = record { rest = refl; work = omega arith; had = had; emptied = emptied };
      },
    )

-- ---- or its connection waits

-- who hears now heard before, or is the one
set_subscription : (was now : WhoHears) (connection : ℕ) (subscription : Subscription)
    → SetsSubscription was connection (Some subscription) now
    → (P : Key → Type 0) → P subscription.key → ((n : ℕ) (h : Subscription) → was n ≡ Some h → P h.key)
    → (other : ℕ)
    → (h : Subscription) → now other ≡ Some h → P h.key
set_subscription was now connection subscription sets P own before other h there =
    elim (cases_eq other connection) [
      | inl same ↦
          let is : subscription ≡ h = some_is subscription h (sym sets.own ∙ ap now (sym same) ∙ there) in
          subst (λ (x : Subscription). P x.key) is own
      | inr apart ↦ before other h (sym (sets.others other apart) ∙ there)
    ]

-- a dispatcher whose subscribers hear the same
same_hears : (d : Dispatcher) (wires : Wires) (subscribers : Subscribers)
    → subscribers_of subscribers ≡ subscribers_of d.subscribers
    → IsDispatcherSound (record d { wires = wires })
    → IsDispatcherSound (record d { wires = wires; subscribers = subscribers })
same_hears d wires subscribers same sound = record {
  book = sound.book;
  patient = sound.patient;
  limits = sound.limits;
  subscribers_owe = λ n h there. sound.subscribers_owe n h (ap (λ (who : WhoHears). who n) (sym same)
      ∙ there);
  owers_hear = λ n wire there owing. subst (λ (who : WhoHears). IsSome (who n)) (sym same)
      (sound.owers_hear n wire there owing);
  tellable = λ n h there. sound.tellable n h (ap (λ (who : WhoHears). who n) (sym same) ∙ there);
}

waiting_tellable : (d : Dispatcher) (key : Key) → IsDispatcherSound d → WaitsOn (state_in d.machine) key
    → IsTellable (state_in d.machine) key
waiting_tellable d key sound waits = record {
  fits = waiting_fits (state_in d.machine) key sound.book.resumes waits;
  epoch = waits.epoch;
  session = waits.session;
  there = waits.there;
  last = inl (waits.incarnation, waits.last);
}

pub waited_it : (d : Dispatcher) (connection : ℕ) (key : Key) (wires : Wires) (subscribers : Subscribers)
    → IsDispatcherSound d
    → WaitsOn (state_in d.machine) key → FrameTaken d connection wires
    → SetsSubscription (subscribers_of d.subscribers) connection
    (Some (record { key = key; until = d.latest + d.patience }))
    (subscribers_of subscribers)
    → subscribers_count subscribers ≡ subscribers_count d.subscribers + 1
    → IsDispatcherSound (record d { wires = wires; subscribers = subscribers })
    × WaitsIt d connection key (record d { wires = wires; subscribers = subscribers })
waited_it d connection key wires subscribers sound waits taking hears count =
    let takes = taking.takes in
    let new = record d { wires = wires; subscribers = subscribers } in
    let subscription : Subscription = record { key = key; until = d.latest + d.patience } in
    let agree = owing_waits takes.after subscription (ap (λ (t : Traffic). t.owes) takes.changes) in
    let less = less_unread d connection wires taking in (
      record {
        book = sound.book;
        patient = sound.patient;
        limits = sound.limits;
        subscribers_owe = owes_kept (dispatcher_state d) (dispatcher_state new) connection (Some takes.after)
            (Some subscription)
            sound.subscribers_owe takes.sets hears agree;
        owers_hear = hears_kept (dispatcher_state d) (dispatcher_state new) connection (Some takes.after)
            (Some subscription)
            sound.owers_hear takes.sets hears agree;
        tellable = λ other h there.
            set_subscription (subscribers_of d.subscribers) (subscribers_of subscribers) connection
            subscription hears
            (λ k. IsTellable (state_in d.machine) k) (waiting_tellable d key sound waits) sound.tellable other
            h there;
      },
      record {
        did = λ body asked. inl (record {
          frame = asked.frame;
          takes = takes;
          lists = taking.noted.changed;
          hears = hears;
          rest = refl;
        });
        takes = record {
          rest = refl;
          work = omega arith;
          had = had_unread d connection taking.due;
          emptied = ap unread_of takes.sets.own ∙ ap (λ (t : Traffic). length t.unread) takes.changes;
        };
      },
    )

pub not_waited : (d : Dispatcher) (connection : ℕ) (key : Key) (one wires : Wires) (subscribers : Subscribers)
    → IsDispatcherSound d
    → FrameTaken d connection one → subscribers_of subscribers ≡ subscribers_of d.subscribers
    → subscribers_count subscribers ≡ subscribers_count d.subscribers + 0
    → SetsWire (wires_in one) connection None (wires_in wires) → NotesOne one connection wires
    → IsDispatcherSound (record d { wires = wires; subscribers = subscribers })
    × WaitsIt d connection key (record d { wires = wires; subscribers = subscribers })
not_waited d connection key one wires subscribers sound taking same count cut noted =
    let closed = closed_behind d connection one wires sound taking.due (Some taking.takes.after)
    taking.takes.sets
    taking.noted cut noted in
    let fewer = closed_unread one wires connection noted cut.own in
    let less = less_unread d connection one taking in
    let state : dispatcher_state (record d { wires = wires; subscribers = subscribers }) ≡ dispatcher_state
    (record d { wires = wires }) =
    ap (λ (who : WhoHears). record {
      book = state_in d.machine;
      now = d.latest;
      open_wires = wires_in wires;
      changed = (tally_in wires).changed;
      hears = who;
    }) same in (
      same_hears d wires subscribers same closed.0,
      record {
        did = λ body asked. inr (subst (λ s. DoesClose (dispatcher_state d) connection s) (sym state)
            closed.1);
        takes = record {
          rest = refl;
          work = omega arith;
          had = had_unread d connection taking.due;
          emptied = closed.2;
        };
      },
    )
