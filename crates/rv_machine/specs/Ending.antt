-- What it is to end a wait.
use Rattle.std.specs.Prelude.{◌≡◌, ◌+◌, ◌++◌, ◌∷◌, [], ℕ, Some}
use Rattle.rv_text.specs.declared.answer.Reply.{Reply}
use Rattle.rv_account.specs.state.State.{OpenPlace, Waiter}
use Rattle.rv_account.specs.state.After.{closed}
use Rattle.rv_machine.specs.declared.tables.Holdings.{Holdings}
use Rattle.rv_machine.specs.Machines.{state_in}
use Rattle.rv_machine.specs.open_places.OpenMap.{found_at}

-- the wait of the request at a place is over: it has this reply, its place is closed, and its key is listed
pub record EndsWaiting (old new : Holdings) (place : ℕ) (reply : Reply) : Type 0 where
  pub there : OpenPlace
  pub found : found_at old.table place ≡ Some there
  pub waiter : Waiter
  pub waits : there.waiter ≡ Some waiter
  pub state : state_in new ≡ closed (state_in old) (there ∷ []) (record { key = waiter.key; reply = reply }
      ∷ [])
  pub listed : new.settled.items ≡ old.settled.items ++ waiter.key ∷ []

-- one more entry, of a moment, was counted; the tables stay
abbrev pub counted : Holdings → ℕ → Holdings
counted m moment =
    record {
      moment = moment;
      length = m.length + 1;
      table = m.table;
      clients = m.clients;
      settled = m.settled;
    }
