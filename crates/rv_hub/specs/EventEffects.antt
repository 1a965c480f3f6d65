-- The effects of a hub's events, read off what the events are.
use Rattle.std.specs.Prelude.{ℕ, Bool, List, [], ◌∷◌, ◌++◌, map, option_to_list}
use Rattle.rv_account.specs.declared.entry.Entry.{Entry}
use Rattle.rv_hub.specs.dispatcher.View.{DispatcherState, DispatcherTerms, moment_now}
use Rattle.rv_hub.specs.dispatcher.Effects.{Effect, Elapsed, step_of}
use Rattle.rv_hub.specs.dispatcher.Runs.{Cause, Heard, Time}
use Rattle.rv_hub.specs.declared.events.HubEvent.{HubEvent}
use Rattle.rv_hub.specs.Turns.{EventGoesOn, TakesEvent, last_effects, own_effects}
pub use Rattle.rv_hub.specs.Turns.{all_effects}

-- the effects of what goes on after an event's own
abbrev pub goes_effects : (terms : DispatcherTerms) (s : DispatcherState) (handed : ℕ) (what : HubEvent)
    (made : List Entry)
    (taken : ℕ) (t : DispatcherState) → EventGoesOn terms s handed what made taken t → List Effect
goes_effects terms s handed what made taken t goes =
    ((Elapsed (moment_now s.now handed) goes.entries goes.settled ∷ goes.ended) ++ goes.overdue)
    ++ all_effects goes.turns

-- the effects of an event, in order
abbrev pub event_effects : (journal : Bool) (terms : DispatcherTerms) (s : DispatcherState) (handed : ℕ)
    (what : HubEvent)
    (made : List Entry) (result : ℕ) (t : DispatcherState)
    → TakesEvent journal terms s handed what made result t
    → List Effect
event_effects journal terms s handed what made result t takes =
    (own_effects what takes.number
    ++ goes_effects terms takes.after_own handed what made takes.taken takes.after_turns takes.goes_on)
    ++ last_effects journal takes.after_turns

-- what leads the account on in an effect: time alone, or the message of a step that was made
abbrev pub causes_of : Effect → List Cause
causes_of (Elapsed moment entries settled) = Time moment ∷ []
causes_of effect = map (λ step. Heard step.message) (option_to_list (step_of effect))
