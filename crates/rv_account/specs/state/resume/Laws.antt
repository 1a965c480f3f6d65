-- The laws of states that a machine can resume from: such a state stays one.
use Rattle.std.specs.Prelude.{◌≤◌, ℕ}
use Rattle.rv_text.specs.Limits.{FitsIdentifier, FitsMessage}
use Rattle.rv_text.specs.declared.message.Message.{Message}
use Rattle.rv_account.specs.rules.StepLimits.{AreStepLimits, StepLimits}
use Rattle.rv_account.specs.state.Moves.{Move, StateNextUnder}
use Rattle.rv_account.specs.Account.{Account}
use Rattle.rv_account.specs.Limits.{FitEntries, FitsEntry, max_moment}
use Rattle.rv_account.specs.declared.entry.Entry.{Entry}
use Rattle.rv_account.specs.rules.Legal.{Legal, before}
use Rattle.rv_account.specs.rules.Limits.{FitsAccount}
use Rattle.rv_account.specs.state.After.{state_after, state_of}
use Rattle.rv_account.specs.state.Follows.{FollowsState}
use Rattle.rv_account.specs.state.State.{State, opening}
use Rattle.rv_account.specs.state.resume.Resuming.{CanResume, StaysInRoom}

-- the state after an entry that follows one to resume from, within its limits, is one too where it has room
abbrev pub EntriesResume : Type 0
EntriesResume = (s : State) (e : Entry) → CanResume s → FitsEntry e → FollowsState s e
    → StaysInRoom (state_after s e) → CanResume (state_after s e)

-- under limits that a step may have, so is the state after each move for a message within its limits
abbrev pub StepsResume : Type 0
StepsResume = (limits : StepLimits) (s : State) (now : ℕ) (m : Message) (move : Move) → AreStepLimits limits
    → FitsMessage m → CanResume s → StateNextUnder limits s now m move → CanResume move.after

-- so is the state of an empty account
abbrev pub OpeningsResume : Type 0
OpeningsResume = (epoch moment : ℕ) → FitsIdentifier epoch → moment ≤ max_moment
    → CanResume (opening epoch moment)

-- an account's epoch, opening moment and entries are within their limits, and its state has had room after
-- each of its entries
pub record HadRoom (a : Account) : Type 0 where
  pub epoch : FitsIdentifier a.epoch
  pub opened : a.opened ≤ max_moment
  pub entries : FitEntries a.entries
  pub room : (j : ℕ) → StaysInRoom (state_of (before a j))

-- so is the state of each legal account of which that holds
abbrev pub AccountsResume : Type 0
AccountsResume = (a : Account) → Legal a → HadRoom a → CanResume (state_of a)

-- and so of each that a book may have
abbrev pub FittingResume : Type 0
FittingResume = (a : Account) → Legal a → FitsAccount a → CanResume (state_of a)
