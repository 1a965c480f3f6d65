-- What it is to end all that is due at a moment.
use Rattle.std.specs.Prelude.{◌≡◌, ◌+◌, ◌++◌, ◌∷◌, ◌≤◌, [], ℕ, List, Some, length}
use Rattle.rv_text.specs.declared.answer.Reply.TheVariants.{TimedOut}
use Rattle.rv_account.specs.declared.entry.Entry.{Entry}
use Rattle.rv_account.specs.state.State.{OpenPlace, Waiter}
use Rattle.rv_account.specs.state.After.{closed, stopped}
use Rattle.rv_account.specs.state.Moves.{ticked_at}
use Rattle.rv_machine.specs.declared.tables.Holdings.{Holdings}
use Rattle.rv_machine.specs.Machines.{keys_settled, state_in}
use Rattle.rv_machine.specs.open_places.OpenMap.{due_in, count_waiting}

-- the first wait that is due at a moment is over, by a time-out
pub record EndsNext (old new : Holdings) (moment : ℕ) : Type 0 where
  pub there : OpenPlace
  pub first : due_in old.table moment ≡ there ∷ due_in new.table moment
  pub waiter : Waiter
  pub waits : there.waiter ≡ Some waiter
  pub state : state_in new
      ≡ closed (state_in old) (there ∷ []) (record { key = waiter.key; reply = TimedOut } ∷ [])
  pub listed : new.settled.items ≡ old.settled.items ++ waiter.key ∷ []
  pub fewer : count_waiting new.table + 1 ≡ count_waiting old.table

-- the waits of the first that are due at a moment are over, by time-outs
pub record EndsFirst (old new : Holdings) (moment : ℕ) : Type 0 where
  pub gone : List OpenPlace
  pub first : due_in old.table moment ≡ gone ++ due_in new.table moment
  pub state : state_in new ≡ (stopped (state_in old) gone TimedOut).after
  pub listed : new.settled.items
      ≡ old.settled.items ++ keys_settled (stopped (state_in old) gone TimedOut).settles
  pub fewer : count_waiting new.table ≤ count_waiting old.table

-- the time-outs of a step at a moment, which made these entries, in the place of waits that ended: nothing is
-- due any longer
pub record TimesOut (old new : Holdings) (moment : ℕ) (entries : List Entry) : Type 0 where
  pub makes : entries ≡ (ticked_at (state_in old) moment).entries
  pub settles : new.settled.items
      ≡ old.settled.items ++ keys_settled (ticked_at (state_in old) moment).settles
  pub after : state_in new ≡ (ticked_at (state_in old) moment).after
  pub none_due : due_in new.table moment ≡ []
  pub room : length entries + count_waiting new.table ≤ count_waiting old.table
