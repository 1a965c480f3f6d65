-- What a verifier holds of the lines that it read: the account that passed, whose state its machine holds,
-- and where it stopped.
use Rattle.std.specs.Prelude.{◌≡◌, ◌≤◌, ◌∷◌, ◌++◌, ℕ, List, Option, None, Some, length}
use Rattle.rv_text.specs.Members.{max_identifier}
use Rattle.rv_account.specs.Account.{Account}
use Rattle.rv_account.specs.declared.entry.Entry.{Entry}
use Rattle.rv_account.specs.rules.Legal.{Legal}
use Rattle.rv_account.specs.state.After.{state_of}
use Rattle.rv_account.specs.state.State.{State}
use Rattle.rv_account.specs.state.resume.Laws.{HadRoom}
use Rattle.rv_account.specs.state.resume.Resuming.{CanResume}
use Rattle.rv_machine.specs.Machines.{state_in}
use Rattle.rv_machine.specs.declared.machine.Machine.{Machine}
use Rattle.rv_verify.specs.follow.Outcomes.{PassesRoom}
use Rattle.rv_verify.specs.follow.state_rules.Ruling.{IsFirstBroken, NamesClosed}
use Rattle.rv_replies.specs.declared.findings.verdict.AccountVerdict.{AccountVerdict}
use Rattle.rv_replies.specs.declared.findings.verdict.AccountVerdict.TheVariants as verdict
use Rattle.rv_verify.specs.Verdicts.{ReadsLong}
use Rattle.rv_verify.specs.declared.verifier.StopReason.{StopReason}
use Rattle.rv_verify.specs.declared.verifier.StopReason.TheVariants as stop
use Rattle.rv_verify.specs.declared.verifier.Verifier.{Verifier}

-- the entry doesn't follow the state, or not with room, for this reason
abbrev pub IsStopAt : State → Entry → StopReason → Type 0
IsStopAt s e (stop.Breaks rule) = IsFirstBroken s e rule
IsStopAt s e (stop.NotOpen entry) = NamesClosed s e × (entry ≡ e)
IsStopAt s e stop.BeyondLimits = PassesRoom s e

-- the account begins with the one that passed, and then has an entry that stops the verifier
pub record StopsBehind (passed account : Account) (reason : StopReason) : Type 0 where
  pub epoch : account.epoch ≡ passed.epoch
  pub opened : account.opened ≡ passed.opened
  pub entry : Entry
  pub more : List Entry
  pub entries : account.entries ≡ passed.entries ++ entry ∷ more
  pub is_stop : IsStopAt (state_of passed) entry reason

-- all of the account passed, or the verifier stopped after a part of it
abbrev pub StandsAt : Account → Account → Option StopReason → Type 0
StandsAt passed account None = account ≡ passed
StandsAt passed account (Some reason) = StopsBehind passed account reason

-- the machine holds the state of the account, which is legal, and whose state has had room
pub record HoldsPassed (m : Machine) (passed : Account) : Type 0 where
  pub state : state_in m ≡ state_of passed
  pub legal : Legal passed
  pub had_room : HadRoom passed

-- the verifier read these lines
pub record HasRead (lines : List (List ℕ)) (v : Verifier) : Type 0 where
  pub passed : Account
  pub holds : HoldsPassed v.machine passed
  pub account : Account
  pub read : ReadsLong lines account
  pub counted : v.entries ≡ length account.entries
  pub stands : StandsAt passed account v.stop

-- the verdict that a reason to stop at a place is
abbrev pub verdict_by : StopReason → ℕ → AccountVerdict
verdict_by (stop.Breaks rule) place = verdict.Fault place rule
verdict_by (stop.NotOpen entry) place = verdict.NotOpen place entry
verdict_by stop.BeyondLimits place = verdict.BeyondLimits place

-- the lines are read as a legal account, whose state has had room after each entry, and the machine holds its
-- state
pub record HoldsAccountOf (lines : List (List ℕ)) (m : Machine) : Type 0 where
  pub account : Account
  pub read : ReadsLong lines account
  pub holds : HoldsPassed m account

-- the verifier can go on
pub record CanReadOn (v : Verifier) : Type 0 where
  pub resumes : CanResume (state_in v.machine)
  pub few : v.entries ≤ max_identifier

-- ---- what a reader of contracts sees of a verifier

-- what its machine is
abbrev pub machine_of : Verifier → Machine
machine_of v = v.machine

-- how many entries it read
abbrev pub entries_read : Verifier → ℕ
entries_read v = v.entries

-- why it stopped
abbrev pub stop_of : Verifier → Option StopReason
stop_of v = v.stop
