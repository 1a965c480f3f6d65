-- Those that were freed go on, one after another.
use Rattle.std.proofs.Common.{inl, inr, ◌≡◌, ◌<◌, ◌≤◌, ◌+◌, ◌-◌, ◌∙◌, ◌++◌, ◌∷◌, ℕ, List, []}
use Rattle.std.proofs.Common.{refl, sym, ap, subst, arith}
use Rattle.std.proofs.Common.{append_assoc, drop, length}
use Rattle.std.specs.Prelude.{flat_map}
use Rattle.std.proofs.lemmas.Grind.{flat_map-append}
use Rattle.std.proofs.lemmas.List.{append-nil, drop-drop, length-drop}
use Rattle.rv_hub.specs.declared.dispatcher.Dispatcher.{Dispatcher}
use Rattle.rv_hub.specs.dispatcher.View.{DispatcherState, DispatcherTerms}
use Rattle.rv_hub.specs.dispatcher.Effects.{Effect, entries_of_effect, told_in_effects}
use Rattle.rv_hub.specs.dispatcher.Order.{IsTurn}
use Rattle.rv_hub.specs.dispatcher.Rest.{HasComeToStop, TakesNoMore}
use Rattle.rv_hub.specs.dispatcher.Fields.{IsSteady, dispatcher_state, dispatcher_terms}
use Rattle.rv_hub.specs.dispatcher.Going.{TakesItsTurn, work_left}
use Rattle.rv_hub.specs.Turns.{IsWholeTurn, Offered, RunsTurns, made_by, offered_to}
use Rattle.rv_hub.specs.Steps.{IsGoing, IsOffering, TurnsOn, less_by, offer_from}
use Rattle.rv_hub.proofs.TurnByTurn.{no_turns, turn_first}
use Rattle.rv_hub.proofs.Staying.{none_in, offered_within, turn_going, turn_offering}

-- ---- one comes off the list

pub steady_freed : (old new : Dispatcher) → new ≡ record old { freed = new.freed } → IsSteady old
    → IsSteady new
steady_freed old new rest steady =
    subst IsSteady (sym rest) (record {
      sound = record {
        book = steady.sound.book;
        patient = steady.sound.patient;
        limits = steady.sound.limits;
        subscribers_owe = steady.sound.subscribers_owe;
        owers_hear = steady.sound.owers_hear;
        tellable = steady.sound.tellable;
      };
      waits = steady.waits;
      room = steady.room;
      none_due = steady.none_due;
      in_time = steady.in_time;
    })

pub less_work : (old new : Dispatcher) (connection : ℕ) → new ≡ record old { freed = new.freed }
    → old.freed.items ≡ connection ∷ new.freed.items → work_left new + 1 ≡ work_left old
less_work old new connection rest first =
    let same : work_left new ≡ work_left (record old { freed = new.freed }) = ap work_left rest in
    let longer : length old.freed.items ≡ length (connection ∷ new.freed.items) = ap length first in
    omega arith

-- ---- so far

pub record TurnsSoFar (old : Dispatcher) (source : ℕ) (piece : List ℕ) (taken : ℕ) (now : Dispatcher) :
    Type 0 where
  pub turns : List (List Effect)
  -- what goes on from here, goes on from the start
  pub way_on : (more : List (List Effect)) (count : ℕ) (end : DispatcherState)
      → RunsTurns (dispatcher_terms old) (dispatcher_state now) (offer_from source (drop taken piece))
      now.freed.items
      more count end
      → RunsTurns (dispatcher_terms old) (dispatcher_state old) (offer_from source piece) old.freed.items
      (turns ++ more)
      (taken + count) end
  pub made : now.entries.items ≡ old.entries.items ++ made_by turns
  pub terms : dispatcher_terms now ≡ dispatcher_terms old
  pub within : taken ≤ length piece
  pub going : IsGoing (dispatcher_state now) now.freed.items
  pub offering : IsOffering (dispatcher_state now) now.freed.items (offer_from source (drop taken piece))

pub far_begun : (old : Dispatcher) (source : ℕ) (piece : List ℕ)
    → IsGoing (dispatcher_state old) old.freed.items
    → IsOffering (dispatcher_state old) old.freed.items (offer_from source piece)
    → TurnsSoFar old source piece 0 old
far_begun old source piece going offering = record {
  turns = [];
  way_on = λ more count end runs.
      let same : count ≡ 0 + count = omega arith in
      subst (λ n. RunsTurns (dispatcher_terms old) (dispatcher_state old) (offer_from source piece)
      old.freed.items more n
      end) same
      runs;
  made = sym (append-nil old.entries.items);
  terms = refl;
  within = omega arith;
  going = going;
  offering = offering;
}

made_more : (turns : List (List Effect)) (effects : List Effect)
    → made_by (turns ++ effects ∷ []) ≡ made_by turns ++ flat_map entries_of_effect effects
made_more turns effects =
    flat_map-append (λ (ds : List Effect). flat_map entries_of_effect ds) turns (effects ∷ [])
    ∙ ap (λ l. made_by turns ++ l) (append-nil (flat_map entries_of_effect effects))

pub far_on : (old now mid new : Dispatcher) (source : ℕ) (piece : List ℕ) (taken connection count : ℕ)
    → TurnsSoFar old source piece taken now → now.freed.items ≡ connection ∷ mid.freed.items
    → mid ≡ record now { freed = mid.freed }
    → TakesItsTurn mid connection (offered_to (offer_from source (drop taken piece)) connection) count new
    → HasComeToStop (dispatcher_state new) connection
    → (count < length (offered_to (offer_from source (drop taken piece)) connection)
    → TakesNoMore (dispatcher_state new) connection)
    → TurnsSoFar old source piece (taken + count) new
far_on old now mid new source piece taken connection count far first rest takes stopped stops =
    let offer = offer_from source (drop taken piece) in
    let offered = offered_to offer connection in
    let state : dispatcher_state mid ≡ dispatcher_state now = ap dispatcher_state rest in
    let terms : dispatcher_terms mid ≡ dispatcher_terms old = ap dispatcher_terms rest ∙ far.terms in
    let turn : IsTurn (dispatcher_terms old) (dispatcher_state now) connection offered takes.effects count
    (dispatcher_state new) =
    subst (λ (t : DispatcherTerms). IsTurn t (dispatcher_state now) connection offered takes.effects count
    (dispatcher_state new))
    terms
    (subst (λ (s : DispatcherState). IsTurn (dispatcher_terms mid) s connection offered takes.effects count
    (dispatcher_state new)) state
    takes.turn) in
    let whole : IsWholeTurn (dispatcher_terms old) (dispatcher_state now) connection offered takes.effects
    count
    (dispatcher_state new) = record { turn = turn; stopped = stopped; takes_no_more = stops } in
    let entries : mid.entries.items ≡ now.entries.items = ap (λ (d : Dispatcher). d.entries.items) rest in
    let left : drop count (drop taken piece) ≡ drop (taken + count) piece = drop-drop count taken piece in
    let freed : mid.freed.items ++ told_in_effects takes.effects ≡ new.freed.items = sym takes.goes.freed in
    let within : count ≤ length offered = turn.within in
    let shorter = offered_within offer connection in
    let long = length-drop taken piece in
    let before = far.within in
    record {
      turns = far.turns ++ takes.effects ∷ [];
      way_on = λ more n end runs.
          let at_freed : RunsTurns (dispatcher_terms old) (dispatcher_state new) (less_by offer count)
          (mid.freed.items ++ told_in_effects takes.effects) more n end =
          subst (λ l. RunsTurns (dispatcher_terms old) (dispatcher_state new) (less_by offer count) l more n
          end)
          (sym freed)
          (subst (λ l. RunsTurns (dispatcher_terms old) (dispatcher_state new) (offer_from source l)
          new.freed.items more
          n end)
          (sym left) runs) in
          let one : RunsTurns (dispatcher_terms old) (dispatcher_state now) offer now.freed.items
          (takes.effects ∷ more)
          (count + n)
          end =
          subst (λ l. RunsTurns (dispatcher_terms old) (dispatcher_state now) offer l (takes.effects ∷ more)
          (count + n)
          end)
          (sym first)
          (turn_first (dispatcher_terms old) (dispatcher_state now) (dispatcher_state new) end offer
          connection mid.freed.items
          takes.effects more count n whole at_freed) in
          let sum : taken + (count + n) ≡ taken + count + n = omega arith in
          subst (λ l. RunsTurns (dispatcher_terms old) (dispatcher_state old) (offer_from source piece)
          old.freed.items l
          (taken + count + n) end) (sym (append_assoc far.turns (takes.effects ∷ []) more))
          (subst (λ m. RunsTurns (dispatcher_terms old) (dispatcher_state old) (offer_from source piece)
          old.freed.items
          (far.turns ++ takes.effects ∷ more) m end) sum (far.way_on (takes.effects ∷ more) (count + n) end
          one));
      made = takes.goes.made ∙ ap (λ l. l ++ flat_map entries_of_effect takes.effects) (entries ∙ far.made)
          ∙ append_assoc old.entries.items (made_by far.turns) (flat_map entries_of_effect takes.effects)
          ∙ ap (λ l. old.entries.items ++ l) (sym (made_more far.turns takes.effects));
      terms = takes.goes.terms ∙ terms;
      within = omega arith;
      going = subst (λ l. IsGoing (dispatcher_state new) l) freed
          (turn_going (dispatcher_terms old) (dispatcher_state now) (dispatcher_state new) connection offered
          takes.effects count
          mid.freed.items turn stopped (subst (λ l. IsGoing (dispatcher_state now) l) first far.going));
      offering = subst (λ l. IsOffering (dispatcher_state new) l
          (offer_from source (drop (taken + count) piece)))
          freed
          (subst (λ l. IsOffering (dispatcher_state new) (mid.freed.items ++ told_in_effects takes.effects)
          (offer_from source l)) left
          (turn_offering (dispatcher_terms old) (dispatcher_state now) (dispatcher_state new) connection offer
          takes.effects count
          mid.freed.items turn stops (subst (λ l. IsOffering (dispatcher_state now) l offer) first
          far.offering)));
    }

pub far_smaller : (now mid new : Dispatcher) (source : ℕ) (piece : List ℕ) (taken connection count : ℕ)
    → now.freed.items ≡ connection ∷ mid.freed.items → mid ≡ record now { freed = mid.freed }
    → taken ≤ length piece
    → TakesItsTurn mid connection (offered_to (offer_from source (drop taken piece)) connection) count new
    → work_left new + (length piece - (taken + count)) < work_left now + (length piece - taken)
far_smaller now mid new source piece taken connection count first rest before takes =
    let offer = offer_from source (drop taken piece) in
    let less = less_work now mid connection rest first in
    let work = takes.work in
    let within : count ≤ length (offered_to offer connection) = takes.turn.within in
    let shorter = offered_within offer connection in
    let long = length-drop taken piece in
    omega arith

-- ---- nobody is to go on any more

stopped_all : (s : DispatcherState) → IsGoing s [] → (connection : ℕ) → HasComeToStop s connection
stopped_all s going connection =
    elim (going connection) [ inl stopped ↦ stopped | inr there ↦ absurd (none_in connection there) ]

takes_none : (s : DispatcherState) (offer : Offered) → IsOffering s [] offer → 0 < length offer.piece
    → TakesNoMore s offer.connection
takes_none s offer offering left =
    elim (offering left) [ inl takes ↦ takes | inr there ↦ absurd (none_in offer.connection there) ]

pub far_ended : (old now new : Dispatcher) (source : ℕ) (piece : List ℕ) (taken : ℕ)
    → TurnsSoFar old source piece taken now → now.freed.items ≡ new.freed.items → new.freed.items ≡ []
    → new ≡ record now { freed = new.freed } → TurnsOn old [] (offer_from source piece) taken new
far_ended old now new source piece taken far same none rest =
    let offer = offer_from source (drop taken piece) in
    let empty : now.freed.items ≡ [] = same ∙ none in
    let state : dispatcher_state new ≡ dispatcher_state now = ap dispatcher_state rest in
    let zero : taken + 0 ≡ taken = omega arith in
    let long = length-drop taken piece in
    let at_none : RunsTurns (dispatcher_terms old) (dispatcher_state now) offer now.freed.items [] 0
    (dispatcher_state new) =
    subst (λ l. RunsTurns (dispatcher_terms old) (dispatcher_state now) offer l [] 0 (dispatcher_state new))
    (sym empty)
    (no_turns (dispatcher_terms old) (dispatcher_state now) (dispatcher_state new) offer state) in
    record {
      turns = far.turns;
      runs = subst (λ l. RunsTurns (dispatcher_terms old) (dispatcher_state old) (offer_from source piece)
          old.freed.items
          l taken
          (dispatcher_state new)) (append-nil far.turns)
          (subst (λ n. RunsTurns (dispatcher_terms old) (dispatcher_state old) (offer_from source piece)
          old.freed.items
          (far.turns ++ []) n (dispatcher_state new)) zero (far.way_on [] 0 (dispatcher_state new) at_none));
      made = ap (λ (d : Dispatcher). d.entries.items) rest ∙ far.made;
      terms = ap dispatcher_terms rest ∙ far.terms;
      none_freed = none;
      within = far.within;
      stopped = λ connection. subst (λ (s : DispatcherState). HasComeToStop s connection) (sym state)
          (stopped_all (dispatcher_state now) (subst (λ l. IsGoing (dispatcher_state now) l) empty far.going)
          connection);
      takes_no_more = λ less. subst (λ (s : DispatcherState). TakesNoMore s source) (sym state)
          (takes_none (dispatcher_state now) offer (subst (λ l. IsOffering (dispatcher_state now) l offer)
          empty
          far.offering)
          (let l = less in omega arith));
    }

-- ---- one goes on before them

pub first_going : (old mid : Dispatcher) (connection : ℕ) (piece : List ℕ) (count : ℕ)
    → TakesItsTurn old connection piece count mid → HasComeToStop (dispatcher_state mid) connection
    → IsGoing (dispatcher_state old) (connection ∷ old.freed.items)
    → IsGoing (dispatcher_state mid) mid.freed.items
first_going old mid connection piece count takes stopped going =
    subst (λ l. IsGoing (dispatcher_state mid) l) (sym takes.goes.freed)
    (turn_going (dispatcher_terms old) (dispatcher_state old) (dispatcher_state mid) connection piece
    takes.effects count
    old.freed.items
    takes.turn stopped going)

pub first_offering : (old mid : Dispatcher) (connection : ℕ) (offer : Offered) (count : ℕ)
    → TakesItsTurn old connection (offered_to offer connection) count mid
    → (count < length (offered_to offer connection) → TakesNoMore (dispatcher_state mid) connection)
    → IsOffering (dispatcher_state old) (connection ∷ old.freed.items) offer
    → IsOffering (dispatcher_state mid) mid.freed.items (less_by offer count)
first_offering old mid connection offer count takes stops offering =
    subst (λ l. IsOffering (dispatcher_state mid) l (less_by offer count)) (sym takes.goes.freed)
    (turn_offering (dispatcher_terms old) (dispatcher_state old) (dispatcher_state mid) connection offer
    takes.effects count
    old.freed.items takes.turn stops offering)

pub first_on : (old mid new : Dispatcher) (connection : ℕ) (offer : Offered) (taken count : ℕ)
    → TakesItsTurn old connection (offered_to offer connection) taken mid
    → HasComeToStop (dispatcher_state mid) connection
    → (taken < length (offered_to offer connection) → TakesNoMore (dispatcher_state mid) connection)
    → TurnsOn mid [] (less_by offer taken) count new
    → TurnsOn old (connection ∷ []) offer (taken + count) new
first_on old mid new connection offer taken count takes stopped stops on =
    let freed : mid.freed.items ≡ old.freed.items ++ told_in_effects takes.effects = takes.goes.freed in
    let terms : dispatcher_terms mid ≡ dispatcher_terms old = takes.goes.terms in
    let within : taken ≤ length (offered_to offer connection) = takes.turn.within in
    let shorter = offered_within offer connection in
    let long = length-drop taken offer.piece in
    let rest : count ≤ length (drop taken offer.piece) = on.within in
    let whole : IsWholeTurn (dispatcher_terms old) (dispatcher_state old) connection
    (offered_to offer connection)
    takes.effects taken (dispatcher_state mid) =
    record { turn = takes.turn; stopped = stopped; takes_no_more = stops } in
    let runs : RunsTurns (dispatcher_terms old) (dispatcher_state mid) (less_by offer taken)
    (old.freed.items ++ told_in_effects takes.effects) on.turns count (dispatcher_state new) =
    subst (λ l. RunsTurns (dispatcher_terms old) (dispatcher_state mid) (less_by offer taken) l on.turns count
    (dispatcher_state new))
    freed (subst (λ (t : DispatcherTerms). RunsTurns t (dispatcher_state mid) (less_by offer taken)
    mid.freed.items
    on.turns count
    (dispatcher_state new)) terms on.runs) in
    record {
      turns = takes.effects ∷ on.turns;
      runs = turn_first (dispatcher_terms old) (dispatcher_state old) (dispatcher_state mid)
          (dispatcher_state new) offer connection
          old.freed.items takes.effects on.turns taken count whole runs;
      made = on.made ∙ ap (λ l. l ++ made_by on.turns) takes.goes.made
          ∙ append_assoc old.entries.items (flat_map entries_of_effect takes.effects) (made_by on.turns);
      terms = on.terms ∙ terms;
      none_freed = on.none_freed;
      within = omega arith;
      stopped = on.stopped;
      takes_no_more = λ less. on.takes_no_more (let l = less in omega arith);
    }

-- no more of the piece was taken than is there
pub far_within : (mid new : Dispatcher) (source : ℕ) (piece : List ℕ) (taken connection count : ℕ)
    → taken ≤ length piece
    → TakesItsTurn mid connection (offered_to (offer_from source (drop taken piece)) connection) count new
    → taken + count ≤ length piece
far_within mid new source piece taken connection count before takes =
    let offer = offer_from source (drop taken piece) in
    let within : count ≤ length (offered_to offer connection) = takes.turn.within in
    let shorter = offered_within offer connection in
    let long = length-drop taken piece in
    omega arith

pub first_within : (old mid : Dispatcher) (offer : Offered) (connection count : ℕ)
    → TakesItsTurn old connection (offered_to offer connection) count mid → count ≤ length offer.piece
first_within old mid offer connection count takes =
    let within : count ≤ length (offered_to offer connection) = takes.turn.within in
    let shorter = offered_within offer connection in
    omega arith
