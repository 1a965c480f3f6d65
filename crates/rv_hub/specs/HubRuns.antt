-- Events of a hub, one after another: their effects, and what they are to the account.
use Rattle.std.specs.Prelude.{ℕ, ◌≡◌, ◌≤◌, ◌⊎◌, Bool, List, [], ◌∷◌, ◌++◌, Some, flat_map}
use Rattle.rv_text.specs.declared.call.Call.{Call}
use Rattle.rv_text.specs.declared.message.Key.{Key}
use Rattle.rv_text.specs.declared.message.Message.TheVariants.{Request}
use Rattle.rv_text.specs.declared.answer.Answer.{Answer}
use Rattle.rv_text.specs.declared.answer.Answer.TheVariants as answer
use Rattle.rv_text.specs.declared.answer.Refusal.{Refusal}
use Rattle.rv_account.specs.declared.entry.Entry.{Entry}
use Rattle.rv_account.specs.declared.entry.Act.TheVariants.{Arrive}
use Rattle.rv_account.specs.Account.{Account, act_at}
use Rattle.rv_account.specs.Limits.{max_moment}
use Rattle.rv_account.specs.rules.Legal.{Legal}
use Rattle.rv_account.specs.rules.StepLimits.{AreStepLimits}
use Rattle.rv_account.specs.rules.Steps.{Answers, NextUnder, OldIncarnationDue}
use Rattle.rv_account.specs.state.After.{due_at, state_of}
use Rattle.rv_account.specs.state.resume.Resuming.{CanResume}
use Rattle.rv_hub.specs.dispatcher.View.{DispatcherState, DispatcherTerms, begun}
use Rattle.rv_hub.specs.dispatcher.Effects.{Asked, Effect, Does, DoesAll, Stepped, Told, entries_of_effect}
use Rattle.rv_hub.specs.dispatcher.Runs.{RunsBook}
use Rattle.rv_hub.specs.declared.events.HubEvent.{HubEvent}
use Rattle.rv_hub.specs.EventEffects.{all_effects, causes_of, event_effects}
use Rattle.rv_hub.specs.Turns.{TakesEvent, made_by}
use Rattle.rv_hub.specs.Pasts.{HasPast, Past, past_after}

-- what came of an event that was handed in
pub data HubAnswer : Type 0 where
  -- it was taken at a moment, made these entries and gave this
  TookEvent : (handed : ℕ) (what : HubEvent) (made : List Entry) (given : ℕ) → HubAnswer
  -- it was refused
  RefusedEvent : HubAnswer

-- the events of a hub, one after another
abbrev pub RunsHub : Bool → DispatcherTerms → DispatcherState → List HubAnswer → DispatcherState → Type 0
RunsHub journal terms s [] t = t ≡ s
RunsHub journal terms s (TookEvent handed what made given ∷ events) t =
    (between : DispatcherState) × TakesEvent journal terms s handed what made given between
    × RunsHub journal terms between events t
RunsHub journal terms s (RefusedEvent ∷ events) t = RunsHub journal terms (begun s) events t

-- the entries that they made, in order
abbrev pub made_in : List HubAnswer → List Entry
made_in [] = []
made_in (TookEvent handed what made given ∷ events) = made ++ made_in events
made_in (RefusedEvent ∷ events) = made_in events

-- effects of events, where before each event no connection has changed yet
abbrev pub DoesEvents : DispatcherTerms → DispatcherState → List (List Effect) → DispatcherState → Type 0
DoesEvents terms s [] t = t ≡ s
DoesEvents terms s (effects ∷ events) t =
    (between : DispatcherState) × DoesAll terms (begun s) effects between × DoesEvents terms between events t

-- the effects of the events of a run, event by event: a refused one has none
abbrev pub run_effects : (journal : Bool) (terms : DispatcherTerms) (answers : List HubAnswer)
    (s t : DispatcherState)
    → RunsHub journal terms s answers t → List (List Effect)
run_effects journal terms [] s t same = []
run_effects journal terms (TookEvent handed what made given ∷ answers) s t (between, takes, more) =
    event_effects journal terms s handed what made given between takes
    ∷ run_effects journal terms answers between t more
run_effects journal terms (RefusedEvent ∷ answers) s t more =
    [] ∷ run_effects journal terms answers (begun s) t more

-- what these effects of events are, which make these entries in order: to the account, one run of time and of
-- their messages alone; to each connection, its past through all of them
pub record AreHubEffects (terms : DispatcherTerms) (s : DispatcherState) (made : List Entry) (events :
    List (List Effect))
    (t : DispatcherState) : Type 0
  where
    pub does : DoesEvents terms s events t
    pub made_is : made ≡ made_by events
    pub one_run : RunsBook terms.limits s.now s.book (flat_map causes_of (all_effects events)) made t.now
        t.book
    pub pasts : (n : ℕ) (past : Past) → HasPast s n past
        → HasPast t n (past_after n past s.book.length (all_effects events))

abbrev pub HubsAreRuns : Type 0
HubsAreRuns = (journal : Bool) (terms : DispatcherTerms) (answers : List HubAnswer) (s t : DispatcherState)
    → (runs : RunsHub journal terms s answers t)
    → AreHubEffects terms s (made_in answers) (run_effects journal terms answers s t runs) t

-- ---- the account of the run

-- a legal account whose state is the hub's; a machine can resume from that state, and nothing is due in it
pub record IsHubAccount (a : Account) (s : DispatcherState) : Type 0 where
  pub legal : Legal a
  pub state : state_of a ≡ s.book
  pub resumes : CanResume s.book
  pub later : s.book.moment ≤ s.now
  pub none_due : due_at s.book s.now ≡ []

-- a legal account is such a one when a hub begins with its state and at that state's moment
abbrev pub BeginsAccount : Type 0
BeginsAccount = (a : Account) (s : DispatcherState) → Legal a → state_of a ≡ s.book → CanResume s.book
    → s.now ≡ s.book.moment → IsHubAccount a s

-- an account with these entries added
pub record AddsEntries (a : Account) (made : List Entry) (b : Account) : Type 0 where
  pub epoch : b.epoch ≡ a.epoch
  pub opened : b.opened ≡ a.opened
  pub entries : b.entries ≡ a.entries ++ made

-- effects lead from a legal account to one with their entries added
pub record LeadsToAccount (a : Account) (made : List Entry) (t : DispatcherState) : Type 0 where
  pub after : Account
  pub adds : AddsEntries a made after
  pub is : IsHubAccount after t

abbrev pub EffectsLeadOn : Type 0
EffectsLeadOn = (terms : DispatcherTerms) (effects : List Effect) (s t : DispatcherState) (a : Account)
    → AreStepLimits terms.limits
    → DoesAll terms s effects t → t.now ≤ max_moment → IsHubAccount a s
    → LeadsToAccount a (flat_map entries_of_effect effects) t

-- so do the events of a hub
abbrev pub EventsLeadOn : Type 0
EventsLeadOn = (terms : DispatcherTerms) (events : List (List Effect)) (s t : DispatcherState) (a : Account)
    → AreStepLimits terms.limits → DoesEvents terms s events t → t.now ≤ max_moment → IsHubAccount a s
    → LeadsToAccount a (made_by events) t

-- a connection that waited for a request is told what the account says of it: its reply, or that it waits, or
-- the refusal that the account has for an incarnation lower than its session's
abbrev pub TellsPublicReply : Type 0
TellsPublicReply = (terms : DispatcherTerms) (s t : DispatcherState) (a : Account) (connection : ℕ)
    (key : Key)
    (said : Answer) → IsHubAccount a s → Does terms s (Told connection key said) t
    → Answers a key said
    ⊎ ((refusal : Refusal) × OldIncarnationDue a key.client key.incarnation refusal
    × (said ≡ answer.Refused refusal))

-- it is told what a repeat of its request would be told: there is a step with the repeat that leaves the
-- account as it is and has this answer
abbrev pub TellsAsARepeat : Type 0
TellsAsARepeat = (terms : DispatcherTerms) (s t : DispatcherState) (a : Account) (connection : ℕ) (key : Key)
    (said : Answer) (call : Call) (place : ℕ) → s.now ≤ max_moment → IsHubAccount a s
    → Does terms s (Told connection key said) t → act_at a.entries place ≡ Some (Arrive key call)
    → NextUnder terms.limits a s.now (Request key call) a said

-- and the answer to a step is that of the account's own step with the frame's message
abbrev pub AnswersByRules : Type 0
AnswersByRules = (terms : DispatcherTerms) (s t : DispatcherState) (a : Account) (connection : ℕ) (body :
    List ℕ)
    (step : Stepped) (said : Answer) → s.now ≤ max_moment → IsHubAccount a s
    → Does terms s (Asked connection body step said) t
    → (b : Account) × NextUnder terms.limits a s.now step.message b said × AddsEntries a step.entries b
