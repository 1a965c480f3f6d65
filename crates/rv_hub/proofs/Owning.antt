-- After an event's own effect each connection has stopped, but for the one that goes on.
use Rattle.std.proofs.Common.{inl, inr, ◌≡◌, ◌≢◌, ◌≤◌, ◌+◌, ◌∙◌, ◌∷◌, ◌⊎◌, ℕ, [], None}
use Rattle.std.proofs.Common.{Option, Some, refl, sym, ap, subst, arith}
use Rattle.std.proofs.Common.{false, true, length, option_to_list}
use Rattle.std.specs.Prelude.{Contains}
use Rattle.std.proofs.lemmas.Bool.{cases_eq}
use Rattle.std.proofs.lemmas.List.{length-append, length-map}
use Rattle.rv_server_connections.specs.connection.Traffic.{AnswerByte, IsBad, IsDue, IsFinished, IsWholeFrame}
use Rattle.rv_server_connections.specs.connection.Traffic.{Traffic, bytes_of, held_count, most_held}
use Rattle.rv_server_connections.specs.connection.Steps.{Releases, fresh_traffic}
use Rattle.rv_server_connections.specs.Connections.{ReleasesOpen}
use Rattle.rv_hub.specs.dispatcher.View.{DispatcherState, DispatcherTerms}
use Rattle.rv_hub.specs.dispatcher.Effects.{Effect, Does, DoesAll}
use Rattle.rv_hub.specs.dispatcher.Effects.{Closed, EndedInput, Left, Opened, Wrote}
use Rattle.rv_hub.specs.dispatcher.Rest.{HasComeToStop}
use Rattle.rv_hub.proofs.OfDispatcher.Answering.{due_length, some_is}
use Rattle.rv_hub.proofs.OfDispatcher.Rows.{there_first}
use Rattle.rv_hub.specs.declared.events.HubEvent.{HubEvent}
use Rattle.rv_hub.specs.declared.events.HubEvent.TheVariants as event
use Rattle.rv_hub.specs.Turns.{goes_on_first, own_effects}
use Rattle.rv_hub.specs.Steps.{IsGoing}
use Rattle.rv_hub.proofs.Staying.{Stops, stops_closed}

-- ---- a new connection has stopped

fresh_stops : Stops (Some fresh_traffic)
fresh_stops wire there =
    let same : fresh_traffic ≡ wire = some_is fresh_traffic wire there in
    subst (λ (w : Traffic). (¬ IsDue w) × (¬ IsFinished w)) same (
      λ due. (let long = due_length fresh_traffic due in omega arith),
      λ finished. elim finished.over [
        | inl bad ↦ (let long = ap length bad in omega arith)
        | inr over ↦ absurd (let no : false ≡ true = over.0 in cc)
      ],
    )

-- ---- and so has one of which bytes were let go

-- as many bytes are held, and nothing else changed that counts
record SameWork (wire after : Traffic) : Type 0 where
  unread : after.unread ≡ wire.unread
  owes : after.owes ≡ wire.owes
  ended : after.ended ≡ wire.ended
  held : held_count after ≡ held_count wire

same_stops : (wire after : Traffic) → SameWork wire after → (¬ IsDue wire) × (¬ IsFinished wire)
    → (¬ IsDue after) × (¬ IsFinished after)
same_stops wire after same stops = (
  λ due. stops.0 (record {
    whole = subst IsWholeFrame same.unread due.whole;
    none_owed = sym same.owes ∙ due.none_owed;
    room = subst (λ n. n ≤ most_held) same.held due.room;
  }),
  λ finished. stops.1 (record {
    all_left = sym same.held ∙ finished.all_left;
    none_owed = sym same.owes ∙ finished.none_owed;
    over = elim finished.over [
      | inl bad ↦ inl (subst IsBad same.unread bad)
      | inr over ↦ inr (sym same.ended ∙ over.0, λ whole. over.1 (subst IsWholeFrame (sym same.unread) whole))
    ];
  }),
)

released_same : (written : ℕ) (wire after : Traffic) → Releases written wire after → SameWork wire after
released_same written wire after releases =
    let goes = releases.goes in
    let ready : length after.ready ≡ length wire.ready + length releases.front =
    ap (λ (t : Traffic). length t.ready) goes ∙ length-append wire.ready (bytes_of releases.front)
    ∙ ap (λ n. length wire.ready + n) (length-map releases.front (λ (b : AnswerByte). b.byte)) in
    let behind : length wire.behind ≡ length releases.front + length after.behind =
    ap length releases.frees.parts ∙ length-append releases.front after.behind in
    record {
      unread = ap (λ (t : Traffic). t.unread) goes;
      owes = ap (λ (t : Traffic). t.owes) goes;
      ended = ap (λ (t : Traffic). t.ended) goes;
      held = omega arith;
    }

released_stops : (written : ℕ) (o after : Option Traffic) → ReleasesOpen written o after → Stops o
    → Stops after
released_stops written None after none stops = subst Stops (sym none) stops_closed
released_stops written (Some wire) None releases stops = absurd releases
released_stops written (Some wire) (Some after) releases stops =
    λ now there.
    subst (λ (w : Traffic). (¬ IsDue w) × (¬ IsFinished w)) (some_is after now there)
    (same_stops wire after (released_same written wire after releases) (stops wire refl))

pub written_stopped : (s t : DispatcherState) (terms : DispatcherTerms) (entries : ℕ)
    → Does terms s (Wrote entries) t
    → (n : ℕ)
    → HasComeToStop s n → HasComeToStop t n
written_stopped s t terms entries does n stopped =
    released_stops entries (s.open_wires.wires n) (t.open_wires.wires n) (does.releases.each n) stopped

-- ---- an event's own effect

others_stopped : (s t : DispatcherState) (connection n : ℕ) → ((c : ℕ) → HasComeToStop s c)
    → (n ≢ connection → t.open_wires.wires n ≡ s.open_wires.wires n)
    → HasComeToStop t n ⊎ Contains (connection ∷ []) n
others_stopped s t connection n stopped same =
    elim (cases_eq n connection) [
      | inl own ↦ inr (there_first connection [] n (sym own))
      | inr apart ↦ inl (subst Stops (sym (same apart)) (stopped n))
    ]

own_stopped : (s t : DispatcherState) (connection n : ℕ) (after : Option Traffic)
    → ((c : ℕ) → HasComeToStop s c)
    → Stops after → t.open_wires.wires connection ≡ after
    → (n ≢ connection → t.open_wires.wires n ≡ s.open_wires.wires n) → HasComeToStop t n
own_stopped s t connection n after stopped stops own same =
    elim (cases_eq n connection) [
      | inl is ↦ subst Stops (sym (ap t.open_wires.wires is ∙ own)) stops
      | inr apart ↦ subst Stops (sym (same apart)) (stopped n)
    ]

pub at_last : (terms : DispatcherTerms) (s t : DispatcherState) (effect : Effect)
    → DoesAll terms s (effect ∷ []) t
    → Does terms s effect t
at_last terms s t effect (between, does, same) = subst (λ (u : DispatcherState). Does terms s effect u)
    (sym same) does

pub own_going : (terms : DispatcherTerms) (s t : DispatcherState) (what : HubEvent) (number : ℕ)
    → ((c : ℕ) → HasComeToStop s c)
    → DoesAll terms s (own_effects what number) t → IsGoing t (option_to_list (goes_on_first what))
own_going terms s t event.Opened number stopped all n =
    let does = at_last terms s t (Opened number) all in
    inl (own_stopped s t number n (Some fresh_traffic) stopped fresh_stops does.opens.sets.own
    (λ apart. does.opens.sets.others n apart))
own_going terms s t (event.Came connection piece) number stopped same n =
    inl (subst (λ (u : DispatcherState). HasComeToStop u n) (sym same) (stopped n))
own_going terms s t (event.Ended connection) number stopped all n =
    let does = at_last terms s t (EndedInput connection) all in
    others_stopped s t connection n stopped (λ apart. does.changes.sets.others n apart)
own_going terms s t (event.Gone connection) number stopped all n =
    let does = at_last terms s t (Closed connection) all in
    inl (own_stopped s t connection n None stopped stops_closed does.sets.own (λ apart. does.sets.others n
    apart))
own_going terms s t (event.Took connection count) number stopped all n =
    let does = at_last terms s t (Left connection count) all in
    others_stopped s t connection n stopped (λ apart. does.changes.sets.others n apart)
own_going terms s t (event.Written entries) number stopped all n =
    inl (written_stopped s t terms entries (at_last terms s t (Wrote entries) all) n (stopped n))
own_going terms s t event.Passed number stopped same n =
    inl (subst (λ (u : DispatcherState). HasComeToStop u n) (sym same) (stopped n))
