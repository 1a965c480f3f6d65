-- The laws of what waits in a state to resume from: what time and a step make of it, and that answers fit.
use Rattle.std.specs.Prelude.{◌≡◌, ◌≤◌, ℕ, List, [], Some}
use Rattle.rv_text.specs.declared.answer.Answer.TheVariants as answer
use Rattle.rv_text.specs.declared.answer.Refusal.TheVariants.{OldIncarnation}
use Rattle.rv_text.specs.declared.message.Key.{Key}
use Rattle.rv_text.specs.declared.message.Message.{Message}
use Rattle.rv_text.specs.Limits.{FitsAnswer, FitsIdentifier, FitsKey, FitsMessage}
use Rattle.rv_account.specs.Limits.{max_moment}
use Rattle.rv_account.specs.rules.StepLimits.{AreStepLimits, StepLimits}
use Rattle.rv_account.specs.state.After.{Settled, due_at}
use Rattle.rv_account.specs.state.Moves.{Move, StateNextAtUnder, answer_told, ticked_at, told_again}
use Rattle.rv_account.specs.state.State.{ClientState, State, client_at}
use Rattle.rv_account.specs.state.resume.Resuming.{CanResume}
use Rattle.rv_account.specs.state.waiting.Waiting.{SettlesJust, WaitsOn}

-- a machine can resume from the state after, which is no later than the moment, and in which nothing is due
-- then; and of those that waited exactly these wait no longer
pub record LeavesNoneDue (s : State) (moment : ℕ) (after : State) (settles : List Settled) : Type 0 where
  pub resumes : CanResume after
  pub in_time : after.moment ≤ moment
  pub none_due : due_at after moment ≡ []
  pub just : SettlesJust s after settles

-- that holds of the time-outs of a moment
abbrev pub TicksLast : Type 0
TicksLast = (s : State) (moment : ℕ) → CanResume s → s.moment ≤ moment → moment ≤ max_moment
    → LeavesNoneDue s moment (ticked_at s moment).after (ticked_at s moment).settles

-- this holds of each move of a state to resume from, at a moment at which nothing is due in it, for a message
-- within its limits and under limits that a step may have
abbrev pub HoldsOfMoves : (State → ℕ → Move → Type 0) → Type 0
HoldsOfMoves Holds = (limits : StepLimits) (s : State) (moment : ℕ) (m : Message) (move : Move)
    → AreStepLimits limits → CanResume s → due_at s moment ≡ [] → s.moment ≤ moment → moment ≤ max_moment
    → FitsMessage m → StateNextAtUnder limits s moment m move → Holds s moment move

-- so it does of each move
abbrev pub MovesLast : Type 0
MovesLast = HoldsOfMoves (λ s moment move. LeavesNoneDue s moment move.after move.settles)

-- the move's answer is within the limits, and if it says that a request waits, the request does
pub record AnswersWell (move : Move) : Type 0 where
  pub fits : FitsAnswer move.answer
  pub waits : (key : Key) → move.answer ≡ answer.Waiting key → WaitsOn move.after key

abbrev pub MovesAnswer : Type 0
MovesAnswer = HoldsOfMoves (λ s moment move. AnswersWell move)

-- the answer to a repeat of a session's last request is within the limits
abbrev pub ToldFits : Type 0
ToldFits = (s : State) (key : Key) (session : ClientState) → CanResume s
    → client_at s key.client ≡ Some session → key.epoch ≡ s.epoch → FitsIdentifier key.number
    → session.incarnation ≡ key.incarnation → session.last ≡ key.number
    → FitsAnswer (answer_told key (told_again session.request))

-- so is the refusal that names the session's greater incarnation
abbrev pub OldFits : Type 0
OldFits = (s : State) (client : ℕ) (session : ClientState) → CanResume s → client_at s client ≡ Some session
    → FitsAnswer (answer.Refused (OldIncarnation session.incarnation))

-- and so is the key of each request that waits
abbrev pub WaitingFits : Type 0
WaitingFits = (s : State) (key : Key) → CanResume s → WaitsOn s key → FitsKey key
