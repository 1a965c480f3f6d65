-- The laws of states: what a state says is what its account says, and what follows one follows the other.
use Rattle.std.specs.Prelude.{◌≡◌, ◌≢◌, ◌↔◌, ◌≤◌, ◌+◌, ◌++◌, ℕ, List, Some, None, length, max}
use Rattle.rv_text.specs.declared.message.Key.{Key}
use Rattle.rv_text.specs.declared.message.Message.{Message}
use Rattle.rv_text.specs.declared.answer.Answer.{Answer}
use Rattle.rv_text.specs.declared.answer.Answer.TheVariants.{Refused}
use Rattle.rv_text.specs.declared.answer.Refusal.TheVariants.{ClientsFull, EpochFull, NoMemory}
use Rattle.rv_account.specs.declared.entry.Entry.{Entry}
use Rattle.rv_account.specs.Account.{Account, key_in, own_moment, with_entry}
use Rattle.rv_account.specs.rules.Legal.{Legal, MayFollow}
use Rattle.rv_account.specs.rules.Counting.{NumberOf}
use Rattle.rv_account.specs.rules.Sessions.{SaidHello}
use Rattle.rv_account.specs.rules.StepLimits.{AreAtMost, StepLimits, book_limits}
use Rattle.rv_account.specs.rules.Steps.{NextUnder, Ticks}
use Rattle.rv_account.specs.rules.Waiting.{Open, Waiting}
use Rattle.rv_account.specs.state.State.{State}
use Rattle.rv_account.specs.state.After.{Following, Settled, following, state_of}
use Rattle.rv_account.specs.state.Follows.{FollowsState}
use Rattle.rv_account.specs.state.Kept.{RulesAgree}
use Rattle.rv_account.specs.state.Moves.{Move, StateNextUnder, Ticked, ticked_at}
use Rattle.rv_account.specs.state.Agreement.{IsStateOf, TellsWaiting}
use Rattle.rv_account.specs.state.Settling.{SettlesEach, SettlesAt, ToldOwn}

-- each part of the state of a legal account says what the formulas over its places say
abbrev pub StatesAgree : Type 0
StatesAgree = (a : Account) → Legal a → IsStateOf a (state_of a)

-- and so it gives which open places wait, for which clients, what is due, and how many there are
abbrev pub StatesTellWaiting : Type 0
StatesTellWaiting = (a : Account) → Legal a → TellsWaiting a (state_of a)

-- an entry may follow a legal account exactly where it may follow its state
abbrev pub StatesFollow : Type 0
StatesFollow = (a : Account) (e : Entry) → Legal a → MayFollow a e ↔ FollowsState (state_of a) e

-- and so for each rule by itself, except for which one is broken first where a named place isn't open
abbrev pub StatesKeepRules : Type 0
StatesKeepRules = (a : Account) (e : Entry) → Legal a → RulesAgree a (state_of a) e

-- what the state says of an entry that follows is what the account with it says: its state, the requests that
-- it settles, and its own request's reply, or that it waits
pub record SaysOfEntry (a : Account) (e : Entry) (made : Following) : Type 0 where
  pub state : state_of (with_entry a e) ≡ made.after
  pub settles : SettlesAt a.entries e made.settles
  pub own : (key : Key) → key_in e.act ≡ Some key → ToldOwn (with_entry a e).entries key made.reply
  pub none : key_in e.act ≡ None → made.reply ≡ None

abbrev pub StatesSettle : Type 0
StatesSettle = (a : Account) (e : Entry) → Legal a → MayFollow a e
    → SaysOfEntry a e (following (state_of a) e.moment e.act)

-- the second account is the first with the entries of a move, and legal; its state and the requests that they
-- settle are those of the move
pub record IsMoveTo (a b : Account) (move : Move) : Type 0 where
  pub epoch : b.epoch ≡ a.epoch
  pub opened : b.opened ≡ a.opened
  pub entries : b.entries ≡ a.entries ++ move.entries
  pub legal : Legal b
  pub state : state_of b ≡ move.after
  pub settles : SettlesEach a.entries move.entries move.settles

-- a step from the first account to the second is a move of the first one's state
pub record MovesToUnder (limits : StepLimits) (a b : Account) (now : ℕ) (m : Message) (answer : Answer) :
    Type 0 where
  pub move : Move
  pub moves : StateNextUnder limits (state_of a) now m move
  pub answers : answer ≡ move.answer
  pub is : IsMoveTo a b move

-- so is each step of a legal account
abbrev pub StepsMoveUnder : StepLimits → Type 0
StepsMoveUnder limits = (a b : Account) (now : ℕ) (m : Message) (answer : Answer) → Legal a
    → NextUnder limits a now m b answer → MovesToUnder limits a b now m answer

-- a move of the account's state is a step of the account, so the account has one
pub record StepsToUnder (limits : StepLimits) (a : Account) (now : ℕ) (m : Message) (move : Move) : Type 0
  where
    pub after : Account
    pub next : NextUnder limits a now m after move.answer
    pub is : IsMoveTo a after move

-- so is each move of the state of a legal account
abbrev pub MovesStepUnder : StepLimits → Type 0
MovesStepUnder limits = (a : Account) (now : ℕ) (m : Message) (move : Move) → Legal a
    → StateNextUnder limits (state_of a) now m move → StepsToUnder limits a now m move

-- the state has a move for the moment and the message that isn't for want of memory
pub record HasMoveUnder (limits : StepLimits) (s : State) (now : ℕ) (m : Message) : Type 0 where
  pub move : Move
  pub moves : StateNextUnder limits s now m move
  pub in_memory : move.answer ≢ Refused NoMemory

-- each state has one, for each moment and message
abbrev pub MovesExistUnder : StepLimits → Type 0
MovesExistUnder limits = (s : State) (now : ℕ) (m : Message) → HasMoveUnder limits s now m

-- an entry may follow one of two legal accounts with one state exactly where it may follow the other
abbrev pub OneFuture : Type 0
OneFuture = (a b : Account) (e : Entry) → Legal a → Legal b → state_of a ≡ state_of b
    → MayFollow a e ↔ MayFollow b e

-- the second account goes on as the first does, by a step with the same answer and the same entries, which
-- settle the same and lead to the same state
pub record GoesOnAlikeUnder (limits : StepLimits) (a b after : Account) (now : ℕ) (m : Message)
    (answer : Answer) : Type 0 where
  pub after_there : Account
  pub next : NextUnder limits b now m after_there answer
  pub more : List Entry
  pub adds : after.entries ≡ a.entries ++ more
  pub adds_there : after_there.entries ≡ b.entries ++ more
  pub told : List Settled
  pub settles : SettlesEach a.entries more told
  pub settles_there : SettlesEach b.entries more told
  pub same : state_of after_there ≡ state_of after

-- so does the second of two legal accounts with one state by each step of the first
abbrev pub StepsAlikeUnder : StepLimits → Type 0
StepsAlikeUnder limits = (a b after : Account) (now : ℕ) (m : Message) (answer : Answer) → Legal a → Legal b
    → state_of a ≡ state_of b → NextUnder limits a now m after answer
    → GoesOnAlikeUnder limits a b after now m answer

-- ---- under a book's limits

abbrev pub StepsMove : Type 0
StepsMove = StepsMoveUnder book_limits

abbrev pub MovesStep : Type 0
MovesStep = MovesStepUnder book_limits

abbrev pub MovesExist : Type 0
MovesExist = MovesExistUnder book_limits

abbrev pub StepsAlike : Type 0
StepsAlike = StepsAlikeUnder book_limits

-- ---- time-outs alone

-- the second account is the first with the entries of time-outs, and legal; its state and the requests that
-- they settle are theirs
pub record IsTickedTo (a b : Account) (made : Ticked) : Type 0 where
  pub epoch : b.epoch ≡ a.epoch
  pub opened : b.opened ≡ a.opened
  pub entries : b.entries ≡ a.entries ++ made.entries
  pub legal : Legal b
  pub state : state_of b ≡ made.after
  pub settles : SettlesEach a.entries made.entries made.settles

-- at its own moment and at each later one, the time-outs of a legal account are those of its state
abbrev pub TicksMove : Type 0
TicksMove = (a b : Account) (moment : ℕ) → Legal a → own_moment a ≤ moment → Ticks a moment b
    → IsTickedTo a b (ticked_at (state_of a) moment)

-- and those of its state are time-outs of the account, so the account has some
pub record TicksTo (a : Account) (moment : ℕ) : Type 0 where
  pub after : Account
  pub ticks : Ticks a moment after
  pub is : IsTickedTo a after (ticked_at (state_of a) moment)

abbrev pub TicksStep : Type 0
TicksStep = (a : Account) (moment : ℕ) → Legal a → own_moment a ≤ moment → TicksTo a moment

-- ---- limits

-- limits only refuse: a step that isn't refused for want of room for clients or entries is a step under all
-- limits that are no less
abbrev pub LimitsOnlyRefuse : Type 0
LimitsOnlyRefuse = (limits greater : StepLimits) (a b : Account) (now : ℕ) (m : Message) (answer : Answer)
    → AreAtMost limits greater → NextUnder limits a now m b answer → answer ≢ Refused ClientsFull
    → answer ≢ Refused EpochFull → NextUnder greater a now m b answer

-- what limits bound is at most its limit after a step, or at most what it was before: the entries with those
-- that wait, the clients, and what is open
pub record StaysWithin (limits : StepLimits) (a b : Account) : Type 0 where
  pub entries : (before after : ℕ) → NumberOf (Waiting a.entries) before
      → NumberOf (Waiting b.entries) after
      → length b.entries + after ≤ max limits.entries (length a.entries + before)
  pub clients : (before after : ℕ) → NumberOf (SaidHello a.entries) before
      → NumberOf (SaidHello b.entries) after → after ≤ max limits.clients before
  pub places : (most before after : ℕ) → limits.open_places ≡ Some most
      → NumberOf (Open a.entries) before → NumberOf (Open b.entries) after → after ≤ max most before

abbrev pub LimitsHold : Type 0
LimitsHold = (limits : StepLimits) (a b : Account) (now : ℕ) (m : Message) (answer : Answer)
    → NextUnder limits a now m b answer → StaysWithin limits a b
