-- The outcomes for an entry that was written before.
use Rattle.std.specs.Prelude.{◌≡◌, [], Option, Some}
use Rattle.rv_text.specs.declared.answer.Reply.{Reply}
use Rattle.rv_account.specs.declared.entry.Act.{Act}
use Rattle.rv_account.specs.declared.entry.Act.TheVariants.{Arrive, Cancel, Hello, Tick}
use Rattle.rv_account.specs.declared.entry.Entry.{Entry}
use Rattle.rv_machine.specs.Machines.{keys_settled, state_in}
use Rattle.rv_machine.specs.Redoing.{NeedsNoMemory}
use Rattle.rv_machine.specs.declared.machine.Machine.{Machine}
use Rattle.rv_account.specs.state.resume.Resuming.{StaysInRoom}
use Rattle.rv_account.specs.state.After.{following, state_after}
use Rattle.rv_account.specs.state.Follows.{FollowsState}
use Rattle.rv_account.specs.state.Moves.{told_again}
use Rattle.rv_account.specs.state.State.{ClientState, State, client_at}
use Rattle.rv_verify.specs.declared.follow.following.Followed.{Followed}
use Rattle.rv_verify.specs.declared.follow.following.Followed.TheVariants as followed
use Rattle.rv_verify.specs.follow.state_rules.Ruling.{IsFirstBroken, NamesClosed}

-- the entry follows the state, and the state after it has room
pub record FollowsInRoom (s : State) (e : Entry) : Type 0 where
  pub follows : FollowsState s e
  pub room : StaysInRoom (state_after s e)

-- an arrival's session in the state has the entry's own reply, if it got one
abbrev pub TellsOwn : State → Act → Option Reply → Type 0
TellsOwn s (Hello client incarnation version) told = Unit {0}
TellsOwn s (Arrive key call) told =
    (session : ClientState) × (client_at s key.client ≡ Some session) × (told_again session.request ≡ told)
TellsOwn s (Cancel key) told = Unit {0}
TellsOwn s Tick told = Unit {0}

-- the machine has followed: it holds the state after the entry, and lists exactly the requests that the entry
-- settles
pub record HasFollowed (old new : Machine) (e : Entry) : Type 0 where
  pub follows : FollowsInRoom (state_in old) e
  pub after : state_in new ≡ state_after (state_in old) e
  pub settles : new.settled.items ≡ keys_settled (following (state_in old) e.moment e.act).settles
  pub own : TellsOwn (state_in new) e.act (following (state_in old) e.moment e.act).reply

-- the entry breaks a rule first, or names a closed place, or follows but has no room; and nothing changed
pub record HasBroken (old new : Machine) (e : Entry) (Fails : State → Entry → Type 0) : Type 0 where
  pub fails : Fails (state_in old) e
  pub stays : new ≡ old

-- the state after the entry has no room
pub record PassesRoom (s : State) (e : Entry) : Type 0 where
  pub follows : FollowsState s e
  pub beyond : ¬ StaysInRoom (state_after s e)

-- memory was refused, and the entry may need some; the state stays, and no request is listed
pub record WantedMemory (old new : Machine) (e : Entry) : Type 0 where
  pub follows : FollowsInRoom (state_in old) e
  pub wants : ¬ NeedsNoMemory (state_in old) e.act
  pub stays : state_in new ≡ state_in old
  pub none : new.settled.items ≡ []

-- this outcome is true of the entry
abbrev pub IsFollowed : Machine → Machine → Entry → Followed → Type 0
IsFollowed old new e followed.Done = HasFollowed old new e
IsFollowed old new e (followed.Breaks rule) = HasBroken old new e (λ s e. IsFirstBroken s e rule)
IsFollowed old new e followed.NotOpen = HasBroken old new e NamesClosed
IsFollowed old new e followed.BeyondLimits = HasBroken old new e PassesRoom
IsFollowed old new e followed.NoMemory = WantedMemory old new e
