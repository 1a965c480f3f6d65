-- Time goes on, and after it those that it told go on.
use Rattle.std.proofs.Common.{inl, inr, ◌≡◌, ◌<◌, ◌∙◌, ◌++◌, ◌∷◌, ◌⊎◌, ℕ, List, [], Option}
use Rattle.std.proofs.Common.{refl, sym, ap, subst, arith}
use Rattle.std.proofs.Common.{length, option_to_list}
use Rattle.std.specs.Prelude.{Contains, flat_map}
use Rattle.std.proofs.lemmas.Bool.{cases_eq}
use Rattle.std.proofs.lemmas.Grind.{flat_map-append}
use Rattle.std.proofs.lemmas.List.{append-nil}
use Rattle.std.proofs.lemmas.List.Elements.{Contains-append_left}
use Rattle.rv_text.specs.declared.message.Key.{Key}
use Rattle.rv_text.specs.declared.answer.Answer.{Answer}
use Rattle.rv_text.specs.declared.answer.Answer.TheVariants as answer
use Rattle.rv_account.specs.declared.entry.Entry.{Entry}
use Rattle.rv_server_connections.specs.declared.subscribers.tables.Subscription.{Subscription}
use Rattle.rv_hub.specs.declared.dispatcher.Dispatcher.{Dispatcher}
use Rattle.rv_hub.specs.dispatcher.View.{DispatcherState, DispatcherTerms}
use Rattle.rv_hub.specs.dispatcher.Effects.{Effect, Does, DoesAll, entries_of_effect, told_of_effect}
use Rattle.rv_hub.specs.dispatcher.Effects.{told_in_effects, Closed, Elapsed, Told}
use Rattle.rv_hub.specs.dispatcher.Order.{IsStride, TellsOverdue, TellsStillWaiting}
use Rattle.rv_hub.specs.dispatcher.Fields.{IsDispatcherReady, dispatcher_state, dispatcher_terms}
use Rattle.rv_hub.specs.dispatcher.Going.{PassesIt}
use Rattle.rv_hub.specs.dispatcher.Runs.{StaysOrTold}
use Rattle.rv_hub.proofs.OfDispatcher.Others.{keys_kept, kept_on}
use Rattle.rv_hub.proofs.OfDispatcher.Quiet.{keys_quiet}
use Rattle.rv_hub.proofs.OfDispatcher.Rows.{there_first}
use Rattle.rv_hub.specs.declared.events.HubEvent.{HubEvent}
use Rattle.rv_hub.specs.declared.events.HubEvent.TheVariants as event
use Rattle.rv_hub.specs.Turns.{RunsTurns, goes_on_first, made_by, offer_in}
use Rattle.rv_hub.specs.Steps.{IsGoing, IsOffering, RunsOn, TurnsOn}
use Rattle.rv_hub.proofs.Staying.{Stops, kept_or, stops_closed}

-- ---- who has waited as long as it may

told_kept : (terms : DispatcherTerms) (s t : DispatcherState) (m : ℕ) (key : Key) (said : Answer)
    → Does terms s (Told m key said) t → (n : ℕ) → StaysOrTold s (m ∷ []) n t
told_kept terms s t m key said does n =
    elim (cases_eq n m) [
      | inl same ↦ inr (inr (there_first m [] n (sym same)))
      | inr apart ↦ inl (does.answers.sets.others n apart)
    ]

closed_kept : (terms : DispatcherTerms) (s t : DispatcherState) (m : ℕ) → Does terms s (Closed m) t → (n : ℕ)
    → StaysOrTold s [] n t
closed_kept terms s t m does n =
    elim (cases_eq n m) [
      | inl same ↦ inr (inl (ap t.open_wires.wires same ∙ does.sets.own))
      | inr apart ↦ inl (does.sets.others n apart)
    ]

late_one : (terms : DispatcherTerms) (s t : DispatcherState) (h : ℕ × Subscription) (effect : Effect)
    → (effect ≡ Told h.0 h.1.key (answer.Waiting h.1.key)) ⊎ (effect ≡ Closed h.0) → Does terms s effect t
    → (n : ℕ)
    → StaysOrTold s (told_of_effect effect) n t
late_one terms s t h effect (inl told) does n =
    subst (λ d. StaysOrTold s (told_of_effect d) n t) (sym told)
    (told_kept terms s t h.0 h.1.key (answer.Waiting h.1.key) (subst (λ d. Does terms s d t) told does) n)
late_one terms s t h effect (inr closed) does n =
    subst (λ d. StaysOrTold s (told_of_effect d) n t) (sym closed)
    (closed_kept terms s t h.0 (subst (λ d. Does terms s d t) closed does) n)

late_kept : (terms : DispatcherTerms) (s t : DispatcherState) (subscribers : List (ℕ × Subscription))
    (effects : List Effect)
    → TellsStillWaiting subscribers effects → DoesAll terms s effects t → (n : ℕ)
    → StaysOrTold s (told_in_effects effects) n t
late_kept terms s t [] effects none does n =
    inl (ap (λ (u : DispatcherState). u.open_wires.wires n) (subst (λ ds. DoesAll terms s ds t) none does))
late_kept terms s t (h ∷ subscribers) [] tells does n = absurd tells
late_kept terms s t (h ∷ subscribers) (effect ∷ effects) (one, each) (mid, does, more) n =
    kept_on s mid t (told_of_effect effect) (told_in_effects effects) n (late_one terms s mid h effect one
    does n)
    (late_kept terms mid t subscribers effects each more n)

pub late_quiet : (subscribers : List (ℕ × Subscription)) (effects : List Effect)
    → TellsStillWaiting subscribers effects
    → flat_map entries_of_effect effects ≡ []
late_quiet [] effects none = ap (λ ds. flat_map entries_of_effect ds) none
late_quiet (h ∷ subscribers) [] tells = absurd tells
late_quiet (h ∷ subscribers) (effect ∷ effects) (one, each) =
    let first : entries_of_effect effect ≡ [] =
    elim one [ inl told ↦ ap entries_of_effect told | inr closed ↦ ap entries_of_effect closed ] in
    ap (λ l. l ++ flat_map entries_of_effect effects) first ∙ late_quiet subscribers effects each

-- ---- time as a whole

pub pass_kept : (terms : DispatcherTerms) (old between new : DispatcherState) (moment : ℕ) (entries :
    List Entry)
    (settled : List Key) (ended overdue : List Effect)
    → IsStride terms old (Elapsed moment entries settled) ended between
    → TellsOverdue terms between overdue new
    → (n : ℕ) → StaysOrTold old (told_in_effects ended ++ told_in_effects overdue) n new
pass_kept terms old between new moment entries settled ended overdue time tells n =
    let elapsed : StaysOrTold old [] n time.between = inl (ap (λ (u : DispatcherState). u.open_wires.wires n)
    time.does.after) in
    kept_on old between new (told_in_effects ended) (told_in_effects overdue) n
    (kept_on old time.between between [] (told_in_effects ended) n elapsed
    (keys_kept terms time.between between settled ended time.told n))
    (late_kept terms between new tells.subscribers overdue tells.each tells.does n)

-- who is told is free to go on
passed_freed : (old new : Dispatcher) (handed : ℕ) (passes : PassesIt old handed new) → old.freed.items ≡ []
    → new.freed.items ≡ told_in_effects passes.ended ++ told_in_effects passes.overdue
passed_freed old new handed passes none =
    passes.goes.freed ∙ ap (λ l. l ++ told_in_effects (passes.ended ++ passes.overdue)) none
    ∙ flat_map-append told_of_effect passes.ended passes.overdue

pub passed_going : (old new : Dispatcher) (handed : ℕ) (row : List ℕ) → IsDispatcherReady old
    → PassesIt old handed new
    → IsGoing (dispatcher_state old) row → IsGoing (dispatcher_state new) (row ++ new.freed.items)
passed_going old new handed row ready passes going n =
    let told = told_in_effects passes.ended ++ told_in_effects passes.overdue in
    let kept = pass_kept (dispatcher_terms old) (dispatcher_state old) passes.between (dispatcher_state new) _
    passes.entries
    passes.settled passes.ended passes.overdue passes.time passes.tells n in
    subst (λ l. Stops ((dispatcher_state new).open_wires.wires n) ⊎ Contains (row ++ l) n)
    (sym (passed_freed old new handed passes ready.none_freed))
    (kept_or Stops stops_closed (dispatcher_state old) (dispatcher_state new) told row n kept (going n))

-- ---- what is offered is of the connection that goes on first

none_offered : {A : Type 0} → 0 < 0 → A
none_offered less = absurd (let l = less in omega arith)

event_offers : (what : HubEvent) → 0 < length (offer_in what).piece
    → Contains (option_to_list (goes_on_first what)) (offer_in what).connection
event_offers event.Opened less = none_offered less
event_offers (event.Came connection piece) less = there_first connection [] connection refl
event_offers (event.Ended connection) less = none_offered less
event_offers (event.Gone connection) less = none_offered less
event_offers (event.Took connection count) less = none_offered less
event_offers (event.Written entries) less = none_offered less
event_offers event.Passed less = none_offered less

pub passed_offering : (s : DispatcherState) (what : HubEvent) (freed : List ℕ)
    → IsOffering s (option_to_list (goes_on_first what) ++ freed) (offer_in what)
passed_offering s what freed less =
    inr (Contains-append_left (option_to_list (goes_on_first what)) freed (offer_in what).connection
    (event_offers what less))

-- ---- time, and then turns

pub ran_on : (old mid new : Dispatcher) (handed : ℕ) (what : HubEvent) (first : Option ℕ) (taken : ℕ)
    → IsDispatcherReady old
    → old.entries.items ≡ [] → PassesIt old handed mid → first ≡ goes_on_first what
    → TurnsOn mid (option_to_list first) (offer_in what) taken new
    → RunsOn old handed what (offer_in what) taken new
ran_on old mid new handed what first taken ready begun passes same on =
    let told = told_in_effects passes.ended ++ told_in_effects passes.overdue in
    let terms : dispatcher_terms mid ≡ dispatcher_terms old = passes.goes.terms in
    let quiet = keys_quiet (dispatcher_terms old) passes.time.between passes.between passes.settled
    passes.ended
    passes.time.told in
    let late = late_quiet passes.tells.subscribers passes.overdue passes.tells.each in
    let none : flat_map entries_of_effect (passes.ended ++ passes.overdue) ≡ [] =
    flat_map-append entries_of_effect passes.ended passes.overdue
    ∙ ap (λ l. l ++ flat_map entries_of_effect passes.overdue) quiet.0 ∙ late in
    let made : mid.entries.items ≡ passes.entries =
    passes.goes.made
    ∙ ap (λ l. l ++ (passes.entries ++ flat_map entries_of_effect (passes.ended ++ passes.overdue))) begun
    ∙ ap (λ l. passes.entries ++ l) none ∙ append-nil passes.entries in
    let row : option_to_list first ++ mid.freed.items ≡ option_to_list (goes_on_first what) ++ told =
    ap (λ (o : Option ℕ). option_to_list o ++ mid.freed.items) same
    ∙ ap (λ l. option_to_list (goes_on_first what) ++ l) (passed_freed old mid handed passes ready.none_freed)
    in
    record {
      goes = record {
        entries = passes.entries;
        settled = passes.settled;
        ended = passes.ended;
        after_time = passes.between;
        time = passes.time;
        overdue = passes.overdue;
        after_overdue = dispatcher_state mid;
        tells = passes.tells;
        turns = on.turns;
        runs = subst (λ l. RunsTurns (dispatcher_terms old) (dispatcher_state mid) (offer_in what) l on.turns
            taken
            (dispatcher_state new)) row
            (subst (λ (t : DispatcherTerms). RunsTurns t (dispatcher_state mid) (offer_in what)
            (option_to_list first ++ mid.freed.items) on.turns taken (dispatcher_state new)) terms on.runs);
        made_is = on.made ∙ ap (λ l. l ++ made_by on.turns) made;
      };
      terms = on.terms ∙ terms;
      none_freed = on.none_freed;
      within = on.within;
      stopped = on.stopped;
      takes_no_more = on.takes_no_more;
    }
