-- What it is to redo what an entry did that was written before.
use Rattle.std.specs.Prelude.{◌≡◌, ◌≢◌, ◌<◌, [], ℕ}
use Rattle.rv_account.specs.declared.entry.Act.{Act}
use Rattle.rv_account.specs.declared.entry.Act.TheVariants.{Hello, Arrive, Cancel, Tick}
use Rattle.rv_account.specs.state.State.{State}
use Rattle.rv_account.specs.state.After.{due_at, following}
use Rattle.rv_account.specs.state.Follows.{MomentFits, NumberFits, NumberWaits}
use Rattle.rv_account.specs.state.resume.Resuming.{CanResume, StaysInRoom}
use Rattle.rv_machine.specs.declared.tables.Holdings.{Holdings}
use Rattle.rv_machine.specs.Machines.{keys_settled, state_in}

-- the state is what the act makes of the one before, and exactly the keys that this settles are listed
pub record IsRedone (old new : Holdings) (moment : ℕ) (does : Act) : Type 0 where
  pub after : state_in new ≡ (following (state_in old) moment does).after
  pub settles : new.settled.items ≡ keys_settled (following (state_in old) moment does).settles

-- from a state to resume from the act goes on to one with room, at its moment and with its number
pub record MayRedo (s : State) (moment : ℕ) (does : Act) : Type 0 where
  pub resumes : CanResume s
  pub moment_fits : MomentFits s moment does
  pub number : NumberFits s does
  pub room : StaysInRoom (following s moment does).after

-- the act takes no memory: it is a tick, or a cancel of what waits
abbrev pub NeedsNoMemory : State → Act → Type 0
NeedsNoMemory s (Hello client incarnation version) = ⊥
NeedsNoMemory s (Arrive key call) = ⊥
NeedsNoMemory s (Cancel key) = NumberWaits s key
NeedsNoMemory s Tick = Unit {0}

-- ---- the next limit

-- the moment is the first at which something is due
pub record IsNextLimit (s : State) (moment : ℕ) : Type 0 where
  pub due : due_at s moment ≢ []
  pub none_before : (earlier : ℕ) → earlier < moment → due_at s earlier ≡ []
