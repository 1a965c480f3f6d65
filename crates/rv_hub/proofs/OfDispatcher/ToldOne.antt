-- One that waits is told, or closed where memory is refused.
use Rattle.std.proofs.Common.{◌≡◌, ◌+◌, ◌<◌, ◌∙◌, ◌∷◌, ℕ, [], None, Option, Some, refl, sym, ap, subst, arith}
use Rattle.std.proofs.Common.{Bool, false, length, true}
use Rattle.std.proofs.lemmas.Bool.{false≢true}
use Rattle.std.proofs.lemmas.List.{append-nil, length-append}
use Rattle.std.proofs.lemmas.Option.{none-some}
use Rattle.rv_account.specs.rules.StepLimits.{AreStepLimits}
use Rattle.rv_machine.specs.Machines.{state_in}
use Rattle.rv_server_connections.specs.connection.Traffic.{Traffic}
use Rattle.rv_server_connections.specs.declared.subscribers.Subscribers.{Subscribers}
use Rattle.rv_server_connections.specs.declared.subscribers.tables.Subscription.{Subscription}
use Rattle.rv_server_connections.specs.subscribers.Subscription.{SetsSubscription, WhoHears}
use Rattle.rv_server_connections.specs.subscribers.Subscribers.{subscribers_count, subscribers_of}
use Rattle.rv_server_connections.specs.Connections.{HasWire, SetsWire}
use Rattle.rv_server_connections.specs.Wires.{wires_in}
use Rattle.rv_hub.specs.declared.dispatcher.Dispatcher.{Dispatcher}
use Rattle.rv_hub.specs.dispatcher.Telling.{IsTellable}
use Rattle.rv_hub.specs.dispatcher.Effects.{Closed, Told}
use Rattle.rv_hub.specs.dispatcher.Rest.{SubscribersOwe, OwersHear}
use Rattle.rv_hub.specs.dispatcher.Fields.{IsBook, IsDispatcherSound, dispatcher_state, dispatcher_terms}
use Rattle.rv_hub.specs.dispatcher.Going.{GivesTold, IsSameDispatcher, MayGive, NotesOne, TellsIt}
use Rattle.rv_hub.proofs.OfDispatcher.Rows.{is_other}
use Rattle.rv_hub.proofs.OfDispatcher.Owing.{Agree, hears_kept, owes_kept}
use Rattle.rv_hub.proofs.OfDispatcher.Noting.{closed_unread, notes_behind, same_unread}

-- ---- what a connection owes and what it waits for

owes_in : Option Traffic → Bool
owes_in None = false
owes_in (Some wire) = wire.owes

pub not_owing : (wire : Traffic) → wire.owes ≡ false → Agree (Some wire) None
unfolding owes_in
not_owing wire paid = record {
  owes = λ h none. absurd (none-some h none);
  hears = λ t same owing. absurd (false≢true (sym paid ∙ ap owes_in same ∙ owing));
}

pub not_open : Agree None None
not_open = record {
  owes = λ h none. absurd (none-some h none);
  hears = λ t none owing. absurd (none-some t none);
}

pub owing_waits : (wire : Traffic) (subscription : Subscription) → wire.owes ≡ true
    → Agree (Some wire) (Some subscription)
owing_waits wire subscription owing = record {
  owes = λ h same. (wire, refl, owing);
  hears = λ t same owes. refl;
}

-- ---- what stays sound

FewerHear : WhoHears → WhoHears → Type 0
FewerHear new old = (connection : ℕ) (subscription : Subscription) → new connection ≡ Some subscription
    → old connection ≡ Some subscription

pub fewer_hear : (old new : WhoHears) (connection : ℕ) → SetsSubscription old connection None new
    → (other : ℕ) (subscription : Subscription) → new other ≡ Some subscription
    → old other ≡ Some subscription
fewer_hear old new connection sets other subscription there =
    sym (sets.others other (is_other new connection other subscription sets.own there)) ∙ there

-- a dispatcher whose machine and time stay
pub sound_by : (old new : Dispatcher) → new ≡ record old {
  wires = new.wires;
  subscribers = new.subscribers;
  freed =
      new.freed;
}
    → SubscribersOwe (dispatcher_state new) → OwersHear (dispatcher_state new)
    → ((connection : ℕ) (subscription : Subscription) → subscribers_of new.subscribers connection ≡ Some
    subscription
    → IsTellable (state_in old.machine) subscription.key)
    → IsDispatcherSound old → IsDispatcherSound new
sound_by old new rest owe hear tellable sound = record {
  book = subst (λ (d : Dispatcher). IsBook d.machine d.latest) (sym rest) sound.book;
  patient = subst (λ (d : Dispatcher). 0 < d.patience) (sym rest) sound.patient;
  limits = subst (λ (d : Dispatcher). AreStepLimits (dispatcher_terms d).limits) (sym rest) sound.limits;
  subscribers_owe = owe;
  owers_hear = hear;
  tellable = λ connection subscription there. subst (λ (d : Dispatcher). IsTellable (state_in d.machine)
      subscription.key)
      (sym rest)
      (tellable connection subscription there);
}

-- ---- who may be told

pub may_give : (old : Dispatcher) (subscribers : Subscribers) (connection : ℕ) (subscription : Subscription)
    → IsDispatcherSound old
    → subscribers_of old.subscribers connection ≡ Some subscription
    → MayGive (record old { subscribers = subscribers }) connection subscription.key
may_give old subscribers connection subscription sound there = record {
  owes = sound.subscribers_owe connection subscription there;
  tellable = sound.tellable connection subscription there;
  resumes = sound.book.resumes;
}

-- the subscribers after a change of wires and of those that are freed
rest_of : (old new : Dispatcher) (subscribers : Subscribers)
    → new ≡ record old { subscribers = subscribers; wires = new.wires; freed = new.freed }
    → new ≡ record old { wires = new.wires; subscribers = new.subscribers; freed = new.freed }
rest_of old new subscribers rest =
    rest ∙ ap (λ (h : Subscribers). record old { wires = new.wires; subscribers = h; freed = new.freed })
    (sym (ap (λ (d : Dispatcher). d.subscribers) rest))

-- it no longer waits, and its answer comes after all that is held
pub told_it : (old new : Dispatcher) (subscribers : Subscribers) (connection : ℕ) (subscription :
    Subscription) → IsDispatcherSound old
    → subscribers_of old.subscribers connection ≡ Some subscription
    → SetsSubscription (subscribers_of old.subscribers) connection None (subscribers_of subscribers)
    → subscribers_count subscribers + 1 ≡ subscribers_count old.subscribers
    → GivesTold (record old { subscribers = subscribers }) connection subscription.key new
    → IsDispatcherSound new × TellsIt old connection new
told_it old new subscribers connection subscription sound there sets count gives =
    let rest = rest_of old new subscribers gives.rest in
    let hears : new.subscribers ≡ subscribers = ap (λ (d : Dispatcher). d.subscribers) gives.rest in
    let sets_new = subst (λ (h : Subscribers). SetsSubscription (subscribers_of old.subscribers) connection
    None
    (subscribers_of h))
    (sym hears) sets in
    let count_new = subst (λ (h : Subscribers). subscribers_count h + 1 ≡ subscribers_count old.subscribers)
    (sym hears) count
    in
    let unread = same_unread old.wires new.wires connection gives.answers.wire gives.answers.after gives.noted
    gives.answers.there gives.answers.sets.own (ap (λ (t : Traffic). length t.unread)
    gives.answers.changes.goes) in
    let longer = ap length gives.freed ∙ length-append old.freed.items (connection ∷ []) in
    let agree = not_owing gives.answers.after (ap (λ (t : Traffic). t.owes) gives.answers.changes.goes) in (
      sound_by old new rest
          (owes_kept (dispatcher_state old) (dispatcher_state new) connection (Some gives.answers.after) None
          sound.subscribers_owe
          gives.answers.sets sets_new agree)
          (hears_kept (dispatcher_state old) (dispatcher_state new) connection (Some gives.answers.after) None
          sound.owers_hear
          gives.answers.sets sets_new agree)
          (λ other h is. sound.tellable other h
          (fewer_hear (subscribers_of old.subscribers) (subscribers_of new.subscribers) connection sets_new
          other h is))
          sound,
      record {
        effect = Told connection subscription.key gives.said;
        tells = refl;
        does = record {
          subscription = subscription;
          waited = there;
          key_is = refl;
          owed = sound.subscribers_owe connection subscription there;
          told = gives.told;
          answers = gives.answers;
          lists = gives.noted.changed;
          hears = sets_new;
          rest = ap dispatcher_state rest;
        };
        fewer = omega arith;
        goes = record { rest = rest; freed = gives.freed; work = omega arith };
      },
    )

-- it is closed instead
pub closed_it : (old mid new : Dispatcher) (subscribers : Subscribers) (connection : ℕ) (subscription :
    Subscription)
    → IsDispatcherSound old
    → subscribers_of old.subscribers connection ≡ Some subscription
    → SetsSubscription (subscribers_of old.subscribers) connection None (subscribers_of subscribers)
    → subscribers_count subscribers + 1 ≡ subscribers_count old.subscribers
    → IsSameDispatcher (record old { subscribers = subscribers }) mid
    → new ≡ record mid { wires = new.wires }
    → SetsWire (wires_in mid.wires) connection None (wires_in new.wires)
    → NotesOne mid.wires connection new.wires → IsDispatcherSound new × TellsIt old connection new
closed_it old mid new subscribers connection subscription sound there sets count same closes cut noted =
    let first : new ≡ record old { subscribers = subscribers; wires = new.wires; freed = mid.freed } =
    closes ∙ ap (λ (d : Dispatcher). record d { wires = new.wires }) same.rest in
    let freed : new.freed ≡ mid.freed = ap (λ (d : Dispatcher). d.freed) first in
    let rest = rest_of old new subscribers
    (subst (λ f. new ≡ record old { subscribers = subscribers; wires = new.wires; freed = f }) (sym freed)
    first) in
    let hears : new.subscribers ≡ subscribers = ap (λ (d : Dispatcher). d.subscribers) first in
    let sets_new = subst (λ (h : Subscribers). SetsSubscription (subscribers_of old.subscribers) connection
    None
    (subscribers_of h))
    (sym hears) sets in
    let count_new = subst (λ (h : Subscribers). subscribers_count h + 1 ≡ subscribers_count old.subscribers)
    (sym hears) count
    in
    let cut_old = subst (λ w. SetsWire w connection None (wires_in new.wires)) same.wires cut in
    let noted_old = notes_behind old.wires mid.wires new.wires connection same.wires same.tally noted in
    let unread = closed_unread old.wires new.wires connection noted_old cut_old.own in
    let items : new.freed.items ≡ old.freed.items = ap (λ f. f.items) freed ∙ same.freed in
    let as_long = ap length items in (
      sound_by old new rest
          (owes_kept (dispatcher_state old) (dispatcher_state new) connection None None sound.subscribers_owe
          cut_old sets_new
          not_open)
          (hears_kept (dispatcher_state old) (dispatcher_state new) connection None None sound.owers_hear
          cut_old sets_new
          not_open)
          (λ other h is. sound.tellable other h
          (fewer_hear (subscribers_of old.subscribers) (subscribers_of new.subscribers) connection sets_new
          other h is))
          sound,
      record {
        effect = Closed connection;
        tells = refl;
        does = record {
          there = open_of sound.subscribers_owe connection subscription there;
          sets = cut_old;
          lists = noted_old.changed;
          hears = sets_new;
          rest = ap dispatcher_state rest;
        };
        fewer = omega arith;
        goes = record { rest = rest; freed = items ∙ sym (append-nil old.freed.items); work = omega arith };
      },
    )
  where
    open_of : SubscribersOwe (dispatcher_state old) → (n : ℕ) (h : Subscription)
        → subscribers_of old.subscribers n ≡ Some h
        → HasWire (wires_in old.wires) n (λ wire. Unit {0})
    open_of owe n h is =
        let found = owe n h is in
        record { wire = found.wire; there = found.there; so = tt }
