-- What holds after an event.
use Rattle.std.proofs.Common.{inl, inr, ◌≡◌, ◌<◌, ◌∙◌, ◌⊎◌, ℕ, [], None, Option, Some}
use Rattle.std.proofs.Common.{refl, sym, ap, subst, arith}
use Rattle.std.proofs.Common.{Bool, false, true, length}
use Rattle.std.specs.Option.{unwrap_or}
use Rattle.std.proofs.lemmas.Bool.{cases_lt}
use Rattle.rv_server_connections.specs.connection.Traffic.{IsBad, IsDue, IsWholeFrame, Traffic, held_count}
use Rattle.rv_server_connections.specs.connection.Traffic.{most_held}
use Rattle.rv_server_connections.specs.Connections.{ReleasesOpen}
use Rattle.rv_hub.specs.declared.dispatcher.Dispatcher.{Dispatcher}
use Rattle.rv_hub.specs.dispatcher.View.{DispatcherState, DispatcherTerms, begun}
use Rattle.rv_hub.specs.dispatcher.Effects.{DoesAll, Wrote}
use Rattle.rv_hub.specs.dispatcher.Rest.{HasComeToStop, SubscribersInTime, TakesNoMore}
use Rattle.rv_hub.specs.dispatcher.Fields.{IsDispatcherReady, IsSteady, dispatcher_state, dispatcher_terms}
use Rattle.rv_hub.specs.declared.events.HubEvent.{HubEvent}
use Rattle.rv_hub.specs.declared.events.HubEvent.TheVariants as event
use Rattle.rv_hub.specs.Events.{EventCan}
use Rattle.rv_hub.specs.EventEffects.{goes_effects}
use Rattle.rv_hub.specs.Turns.{EventGives, IsAtRest, CanTakeNone, TakesPiece, last_effects}
use Rattle.rv_hub.specs.Turns.{offer_in, own_effects}
use Rattle.rv_hub.specs.Steps.{ActsOwn, RunsOn, opened_number}
use Rattle.rv_hub.proofs.Longer.{IsWithin, within_all}
use Rattle.rv_hub.proofs.Owning.{at_last, written_stopped}
use Rattle.rv_hub.proofs.Staying.{TakesNone, none_closed}
use Rattle.rv_hub.proofs.Whole.{goes_do}
use Rattle.rv_hub.proofs.OfDispatcher.Answering.{some_is}

-- ---- what can be, can be where no connection has changed yet

pub can_begun : (s : DispatcherState) (what : HubEvent) → EventCan s what → EventCan (begun s) what
can_begun s event.Opened can = tt
can_begun s (event.Came connection piece) can = can
can_begun s (event.Ended connection) can = can
can_begun s (event.Gone connection) can = can
can_begun s (event.Took connection count) can = can
can_begun s (event.Written entries) can = can
can_begun s event.Passed can = tt

-- ---- after time and turns

pub ready_behind : (d : Dispatcher) → IsSteady d → d.freed.items ≡ [] → IsDispatcherReady d
ready_behind d steady none = record {
  sound = steady.sound;
  waits = steady.waits;
  room = steady.room;
  none_freed = none;
}

pub within_behind : (old mid new : Dispatcher) (what : HubEvent) (opened : Option ℕ) (handed taken : ℕ)
    → IsWithin (dispatcher_state old) → ActsOwn old what opened mid
    → RunsOn mid handed what (offer_in what) taken new
    → IsWithin (dispatcher_state new)
within_behind old mid new what opened handed taken within acts runs =
    let goes = goes_do (dispatcher_terms mid) (dispatcher_state mid) handed what new.entries.items taken
    (dispatcher_state new)
    runs.goes in
    within_all (dispatcher_terms mid) (goes_effects (dispatcher_terms mid) (dispatcher_state mid) handed what
    new.entries.items
    taken
    (dispatcher_state new) runs.goes) (dispatcher_state mid) (dispatcher_state new) goes.does
    (within_all (dispatcher_terms old) (own_effects what acts.number) (dispatcher_state old)
    (dispatcher_state mid) acts.does
    within)

-- ---- where all is written

last_stopped : (terms : DispatcherTerms) (journal : Bool) (s t : DispatcherState)
    → DoesAll terms s (last_effects journal s) t
    → (n : ℕ) → HasComeToStop s n → HasComeToStop t n
last_stopped terms true s t same n stopped = subst (λ (u : DispatcherState). HasComeToStop u n) (sym same)
    stopped
last_stopped terms false s t all n stopped = written_stopped s t terms s.book.length
    (at_last terms s t (Wrote s.book.length) all) n stopped

released_none : (written : ℕ) (o after : Option Traffic) → ReleasesOpen written o after → TakesNone o
    → TakesNone after
released_none written None after none takes = subst TakesNone (sym none) none_closed
released_none written (Some wire) None releases takes = absurd releases
released_none written (Some wire) (Some after) releases takes =
    λ now there.
    subst (λ (w : Traffic). IsWholeFrame w.unread ⊎ IsBad w.unread) (some_is after now there)
    (subst (λ l. IsWholeFrame l ⊎ IsBad l) (sym (ap (λ (w : Traffic). w.unread) releases.goes))
    (takes wire refl))

last_takes : (terms : DispatcherTerms) (journal : Bool) (s t : DispatcherState)
    → DoesAll terms s (last_effects journal s) t
    → (n : ℕ) → TakesNoMore s n → TakesNoMore t n
last_takes terms true s t same n takes = subst (λ (u : DispatcherState). TakesNoMore u n) (sym same) takes
last_takes terms false s t all n takes =
    let does = at_last terms s t (Wrote s.book.length) all in
    released_none s.book.length (s.open_wires.wires n) (t.open_wires.wires n) (does.releases.each n) takes

last_in_time : (terms : DispatcherTerms) (journal : Bool) (s t : DispatcherState)
    → DoesAll terms s (last_effects journal s) t
    → SubscribersInTime s → SubscribersInTime t
last_in_time terms true s t same in_time = subst SubscribersInTime (sym same) in_time
last_in_time terms false s t all in_time =
    λ connection subscription there.
    let does = at_last terms s t (Wrote s.book.length) all in
    let hears = ap (λ (u : DispatcherState). u.hears connection) does.rest in
    let now : t.now ≡ s.now = ap (λ (u : DispatcherState). u.now) does.rest in
    let before = in_time connection subscription (sym hears ∙ there) in
    omega arith

last_written : (terms : DispatcherTerms) (journal : Bool) (s t : DispatcherState)
    → DoesAll terms s (last_effects journal s) t
    → journal ≡ false → t.open_wires.written ≡ t.book.length
last_written terms true s t same unkept = absurd (let odd : true ≡ false = unkept in cc)
last_written terms false s t all unkept =
    let does = at_last terms s t (Wrote s.book.length) all in
    does.releases.written_is ∙ sym (ap (λ (u : DispatcherState). u.book.length) does.rest)

pub at_rest : (old new : Dispatcher) (journal : Bool) → IsSteady old
    → ((connection : ℕ) → HasComeToStop (dispatcher_state old) connection)
    → IsWithin (dispatcher_state old) → IsDispatcherReady new
    → DoesAll (dispatcher_terms old) (dispatcher_state old) (last_effects journal (dispatcher_state old))
    (dispatcher_state new)
    → IsAtRest journal (dispatcher_state new)
at_rest old new journal steady stopped within ready last = record {
  stopped = λ n. last_stopped (dispatcher_terms old) journal (dispatcher_state old) (dispatcher_state new)
      last n (stopped n);
  subscribers_owe = ready.sound.subscribers_owe;
  owers_hear = ready.sound.owers_hear;
  waits = ready.waits;
  in_time = last_in_time (dispatcher_terms old) journal (dispatcher_state old) (dispatcher_state new) last
      steady.in_time;
  written = within_all (dispatcher_terms old) (last_effects journal (dispatcher_state old))
      (dispatcher_state old)
      (dispatcher_state new) last
      within;
  all_written = last_written (dispatcher_terms old) journal (dispatcher_state old) (dispatcher_state new)
      last;
}

-- ---- what is left of a piece

owes_or_full : (wire : Traffic) (owes : Bool) → wire.owes ≡ owes → IsWholeFrame wire.unread → (¬ IsDue wire)
    → (wire.owes ≡ true) ⊎ (most_held < held_count wire)
owes_or_full wire true is whole not_due = inl is
owes_or_full wire false is whole not_due =
    elim (cases_lt most_held (held_count wire)) [
      | inl full ↦ inr full
      | inr room ↦ absurd (not_due (record { whole = whole; none_owed = is; room = room }))
    ]

is_stopped : (wire : Traffic) → IsWholeFrame wire.unread ⊎ IsBad wire.unread → (¬ IsDue wire)
    → CanTakeNone wire
is_stopped wire (inl whole) not_due = inl (whole, owes_or_full wire wire.owes refl whole not_due)
is_stopped wire (inr bad) not_due = inr bad

pub takes_piece : (terms : DispatcherTerms) (journal : Bool) (s t : DispatcherState) (what : HubEvent)
    (number taken result : ℕ) → DoesAll terms s (last_effects journal s) t
    → ((connection : ℕ) → HasComeToStop s connection)
    → (taken < length (offer_in what).piece → TakesNoMore s (offer_in what).connection)
    → EventGives what number taken result → TakesPiece what result t
takes_piece terms journal s t event.Opened number taken result last stopped takes gives = tt
takes_piece terms journal s t (event.Came connection piece) number taken result last stopped takes gives =
    λ less wire there.
    let before : taken < length piece.now = (let l = less in let g : result ≡ taken = gives in omega arith) in
    is_stopped wire (last_takes terms journal s t last connection (takes before) wire there)
    (last_stopped terms journal s t last connection (stopped connection) wire there).0
takes_piece terms journal s t (event.Ended connection) number taken result last stopped takes gives = tt
takes_piece terms journal s t (event.Gone connection) number taken result last stopped takes gives = tt
takes_piece terms journal s t (event.Took connection count) number taken result last stopped takes gives = tt
takes_piece terms journal s t (event.Written entries) number taken result last stopped takes gives = tt
takes_piece terms journal s t event.Passed number taken result last stopped takes gives = tt

-- ---- what an event gives

given_by : (what : HubEvent) (number taken : ℕ)
    → EventGives what number taken (unwrap_or (opened_number what number) taken)
given_by event.Opened number taken = refl
given_by (event.Came connection piece) number taken = refl
given_by (event.Ended connection) number taken = refl
given_by (event.Gone connection) number taken = refl
given_by (event.Took connection count) number taken = refl
given_by (event.Written entries) number taken = refl
given_by event.Passed number taken = refl

pub gives_it : (what : HubEvent) (number taken result : ℕ) (opened : Option ℕ)
    → opened ≡ opened_number what number
    → result ≡ unwrap_or opened taken → EventGives what number taken result
gives_it what number taken result opened same is =
    subst (λ r. EventGives what number taken r) (sym (is ∙ ap (λ (o : Option ℕ). unwrap_or o taken) same))
    (given_by what number taken)
