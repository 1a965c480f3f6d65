-- What the audit of an account holds after the lines that were read so far.
use Rattle.std.specs.Prelude.{◌≡◌, ◌⊎◌, ◌-◌, [], ℕ, List, Option, None, Some, IfSome, IsSome, take}
use Rattle.rv_account.specs.Account.{Account}
use Rattle.rv_machine.specs.Machines.{state_in}
use Rattle.rv_replies.specs.Standing.{HasNoted}
use Rattle.rv_replies.specs.declared.records.Records.{Records}
use Rattle.rv_verify.specs.Reading.{IsBadAt}
use Rattle.rv_verify.specs.Standing.{CanReadOn, HasRead}
use Rattle.rv_verify.specs.declared.stage.Stage.{Stage}
use Rattle.rv_verify.specs.declared.verifier.Verifier.{Verifier}

-- the record has noted no entry
abbrev pub AreNew : Records → Type 0
AreNew r = (a : Account) → a.entries ≡ [] → HasNoted r a

-- the verifier read these lines, and the record has noted what passed of them
pub record HasReadNoting (lines : List (List ℕ)) (v : Verifier) (r : Records) : Type 0 where
  pub read : HasRead lines v
  pub noted : HasNoted r read.passed

-- no line was read; or the first is bad; or the verifier read all, or all before the first bad one
abbrev pub StandsBehind : List (List ℕ) → Option Verifier → Option ℕ → Records → Type 0
StandsBehind lines None None r = (lines ≡ []) × AreNew r
StandsBehind lines None (Some n) r = IsBadAt lines n × (n ≡ 1)
StandsBehind lines (Some v) None r = HasReadNoting lines v r
StandsBehind lines (Some v) (Some n) r = IsBadAt lines n × HasReadNoting (take (n - 1) lines) v r

-- these lines were read
abbrev pub HasReadLines : List (List ℕ) → Stage → Records → Type 0
HasReadLines lines s r = StandsBehind lines s.verifier s.bad r

-- one more line can be read
abbrev pub CanTakeLine : Stage → Type 0
CanTakeLine s = IfSome s.verifier CanReadOn

-- a verifier stopped
abbrev pub HasStopped : Option Verifier → Type 0
HasStopped None = ⊥
HasStopped (Some v) = IsSome v.stop

-- a line is bad, or the verifier stopped
abbrev pub HasFault : Stage → Type 0
HasFault s = IsSome s.bad ⊎ HasStopped s.verifier

-- no line was read
abbrev pub IsAtHead : Stage → Type 0
IsAtHead s = (s.verifier ≡ None) × (s.bad ≡ None)

-- the epoch that a verifier's machine holds
abbrev pub epoch_of : Option Verifier → Option ℕ
epoch_of None = None
epoch_of (Some v) = Some (state_in v.machine).epoch

-- how many entries were read by a verifier
abbrev pub entries_of : Option Verifier → ℕ
entries_of None = 0
entries_of (Some v) = v.entries
