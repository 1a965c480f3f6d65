-- Whatever a crash leaves of a hub's account, a machine can be made of it.
use Rattle.std.specs.Prelude.{◌≤◌, ℕ, List, flat_map}
use Rattle.rv_account.specs.Account.{Account}
use Rattle.rv_account.specs.Limits.{max_moment}
use Rattle.rv_account.specs.rules.Legal.{Legal, before}
use Rattle.rv_account.specs.rules.StepLimits.{AreStepLimits}
use Rattle.rv_account.specs.state.After.{state_of}
use Rattle.rv_account.specs.state.resume.Laws.{HadRoom}
use Rattle.rv_account.specs.state.resume.Resuming.{CanResume}
use Rattle.rv_hub.specs.dispatcher.View.{DispatcherState, DispatcherTerms}
use Rattle.rv_hub.specs.dispatcher.Effects.{Effect, DoesAll, entries_of_effect}
use Rattle.rv_hub.specs.HubRuns.{AddsEntries, DoesEvents, IsHubAccount}
use Rattle.rv_hub.specs.Turns.{made_by}

-- if there was room after each entry of a hub's account, so there is after those that its effects add
abbrev pub EffectsKeepRoom : Type 0
EffectsKeepRoom = (terms : DispatcherTerms) (effects : List Effect) (s t : DispatcherState) (a b : Account)
    → AreStepLimits terms.limits
    → DoesAll terms s effects t → t.now ≤ max_moment → IsHubAccount a s
    → AddsEntries a (flat_map entries_of_effect effects) b → HadRoom a → HadRoom b

-- so there is after those that its events add
abbrev pub EventsKeepRoom : Type 0
EventsKeepRoom = (terms : DispatcherTerms) (events : List (List Effect)) (s t : DispatcherState)
    (a b : Account)
    → AreStepLimits terms.limits → DoesEvents terms s events t → t.now ≤ max_moment → IsHubAccount a s
    → AddsEntries a (made_by events) b → HadRoom a → HadRoom b

-- an account to go on from
pub record LetsGoOn (a : Account) : Type 0 where
  pub legal : Legal a
  pub had_room : HadRoom a
  pub resumes : CanResume (state_of a)

-- so is each front of a legal account in which there was room after each entry
abbrev pub FrontsGoOn : Type 0
FrontsGoOn = (a : Account) (count : ℕ) → Legal a → HadRoom a → LetsGoOn (before a count)
