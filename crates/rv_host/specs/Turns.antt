-- What a server's turn does to the engine behind its sockets, and to what keeps its account.
use Rattle.std.specs.Prelude.{◌↔◌, ◌≡◌, false, IsSome, IsTrue, None, Option, Some}
use Rattle.rv_frame.specs.Lasting.{LastingDevice}
use Rattle.rv_traffic.specs.CallRuns.{RunsWith}
use Rattle.rv_host.specs.declared.shell.Shell.{Shell}

-- what keeps the account takes what is written, if one is kept: no write to it failed
abbrev pub TakesAllLines : {K : Type 0} → LastingDevice K → Option K → Type 0
TakesAllLines lasts None = Unit {0}
TakesAllLines lasts (Some account) = lasts.failed account ≡ false

-- the calls of a turn, joined, over the one device of the account: the lines that the hub was told were
-- written went there
abbrev pub TurnsOver : {K : Type 0} → LastingDevice K → Shell K → Shell K → Type 0
TurnsOver lasts old new = RunsWith lasts old.traffic old.account new.traffic new.account

-- an account is kept exactly if the hub waits until lines are written
abbrev pub HasItsAccount : {K : Type 0} → Shell K → Type 0
HasItsAccount shell = IsTrue shell.traffic.engine.hub.has_journal ↔ IsSome shell.account
