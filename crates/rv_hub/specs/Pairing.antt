-- The answers of a connection beside its frames, each at its own frame's place.
use Rattle.std.specs.Prelude.{ℕ, ◌≡◌, ◌≤◌, ◌⊎◌, List, Some, length, slice_get}
use Rattle.rv_text.specs.declared.call.Call.{Call}
use Rattle.rv_text.specs.declared.message.Key.{Key}
use Rattle.rv_text.specs.declared.message.Message.{Message}
use Rattle.rv_text.specs.declared.message.Message.TheVariants.{Request}
use Rattle.rv_text.specs.declared.answer.Answer.{Answer}
use Rattle.rv_text.specs.declared.answer.Answer.TheVariants.{Refused}
use Rattle.rv_text.specs.declared.answer.Refusal.{Refusal}
use Rattle.rv_text.specs.declared.answer.Refusal.TheVariants.{BadText, NoMemory}
use Rattle.rv_text.specs.Bodies.{IsMessageBody, answer_text}
use Rattle.rv_account.specs.declared.entry.Act.TheVariants.{Arrive}
use Rattle.rv_account.specs.declared.entry.Entry.{Entry}
use Rattle.rv_account.specs.Account.{Account, act_at, own_moment}
use Rattle.rv_account.specs.Limits.{max_moment}
use Rattle.rv_account.specs.rules.StepLimits.{AreStepLimits, StepLimits}
use Rattle.rv_account.specs.rules.Steps.{NextUnder}
use Rattle.rv_server_connections.specs.connection.History.{Given}
use Rattle.rv_server_connections.specs.declared.subscribers.tables.Subscription.{Subscription}
use Rattle.rv_server_connections.specs.Connections.{HasWire}
use Rattle.rv_hub.specs.dispatcher.View.{DispatcherState, DispatcherTerms}
use Rattle.rv_hub.specs.dispatcher.Effects.{Effect}
use Rattle.rv_hub.specs.EventEffects.{all_effects}
use Rattle.rv_hub.specs.HubRuns.{AddsEntries, DoesEvents, IsHubAccount}
use Rattle.rv_hub.specs.Pasts.{HasPast, Past, no_past, past_after}
use Rattle.rv_hub.specs.Turns.{made_by}

-- the second account is the first, or the first with more entries
abbrev pub IsFrontOf : Account → Account → Type 0
IsFrontOf a b = (made : List Entry) × AddsEntries a made b

-- this is the answer of a step with this message between two fronts of the account, and rests on all entries
-- of the later one; the step's moment is no earlier than the earlier front's, and at most this one
pub record IsAnswerOfStep (limits : StepLimits) (a : Account) (time : ℕ) (message : Message)
    (given : Given) :
    Type 0 where
  pub before : Account
  pub after : Account
  pub now : ℕ
  pub not_before : own_moment before ≤ now
  pub not_after : now ≤ time
  pub said : Answer
  pub steps : NextUnder limits before now message after said
  pub body_is : given.body ≡ answer_text said
  pub rests : given.rests_on ≡ length after.entries
  pub later : IsFrontOf before after
  pub front : IsFrontOf after a

-- a refusal that rests on no entry
abbrev pub on_nothing : Refusal → Given
on_nothing refusal = record { body = answer_text (Refused refusal); rests_on = 0 }

-- the answer that a frame of this body got by a moment: that to bad text, if the body isn't a message's; or
-- that for want of memory; or that of a step with its message
abbrev pub IsAnswerTo : StepLimits → Account → ℕ → List ℕ → Given → Type 0
IsAnswerTo limits a time body given =
    (((message : Message) → ¬ IsMessageBody body message) × (given ≡ on_nothing BadText))
    ⊎ ((given ≡ on_nothing NoMemory)
    ⊎ ((message : Message) × IsMessageBody body message × IsAnswerOfStep limits a time message given))

-- each answer is the answer to the frame at its place
abbrev pub ArePaired : StepLimits → Account → ℕ → List (List ℕ) → List Given → Type 0
ArePaired limits a time frames answers = (i : ℕ) (body : List ℕ) (given : Given)
    → slice_get frames i ≡ Some body → slice_get answers i ≡ Some given → IsAnswerTo limits a time body given

-- the first frame without an answer is that of the request with this key, as it arrived
pub record WaitsFor (a : Account) (frames : List (List ℕ)) (answers : List Given) (key : Key) : Type 0 where
  pub body : List ℕ
  pub call : Call
  pub place : ℕ
  pub frame : slice_get frames (length answers) ≡ Some body
  pub is : IsMessageBody body (Request key call)
  pub arrived : act_at a.entries place ≡ Some (Arrive key call)

-- the answers of a connection are so paired; and if it waits, it is open and waits for that frame
pub record InPairs (limits : StepLimits) (a : Account) (s : DispatcherState) (n : ℕ) (frames : List (List ℕ))
    (answers : List Given) : Type 0 where
  pub paired : ArePaired limits a s.now frames answers
  pub waits : (subscription : Subscription) → s.hears n ≡ Some subscription
      → HasWire s.open_wires n (λ wire. Unit {0}) × WaitsFor a frames answers subscription.key

-- a past of a connection, with its answers beside its frames
pub record HasPairs (limits : StepLimits) (a : Account) (s : DispatcherState) (n : ℕ) (past : Past) :
    Type 0 where
  pub has : HasPast s n past
  pub pairs : InPairs limits a s n past.frames past.answers

-- if a number is free, and nobody waits under it, it has an empty past
abbrev pub BeginsPairs : Type 0
BeginsPairs = (limits : StepLimits) (a : Account) (s : DispatcherState) (n : ℕ)
    → ((subscription : Subscription) → ¬ (s.hears n ≡ Some subscription))
    → ¬ HasWire s.open_wires n (λ wire. Unit {0})
    → HasPairs limits a s n no_past

-- the events of a hub keep this, in the account with their entries added
abbrev pub FramesAreAnswered : Type 0
FramesAreAnswered = (terms : DispatcherTerms) (events : List (List Effect)) (s t : DispatcherState)
    (a b : Account)
    → AreStepLimits terms.limits
    → DoesEvents terms s events t → t.now ≤ max_moment → IsHubAccount a s
    → AddsEntries a (made_by events) b → (n : ℕ) (past : Past) → HasPairs terms.limits a s n past
    → HasPairs terms.limits b t n (past_after n past s.book.length (all_effects events))
