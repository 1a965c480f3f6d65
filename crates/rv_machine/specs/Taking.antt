-- What it is to take a queue's oldest items.
use Rattle.std.specs.Prelude.{◌≡◌, ◌≤◌, ◌++◌, ◌∷◌, [], ℕ, List, Option, Some, IsSome, length, option_and_then}
use Rattle.std.specs.Prelude.{filter_map}
use Rattle.rv_text.specs.declared.message.Key.{Key}
use Rattle.rv_text.specs.declared.call.Side.TheVariants.{Gives}
use Rattle.rv_text.specs.declared.answer.Reply.{Reply}
use Rattle.rv_account.specs.state.State.{OpenPlace, State, place_list}
use Rattle.rv_account.specs.state.After.{Settled, closed, receipt_of, session_version, settled_all}
use Rattle.rv_machine.specs.declared.tables.Holdings.{Holdings}
use Rattle.rv_machine.specs.Machines.{keys_settled, state_in}
use Rattle.rv_machine.specs.open_places.OpenMap.{line_in, count_waiting}

-- the reply of a giver whose item the request with this key takes, by the giver's session's version
abbrev pub told_taken : State → Key → OpenPlace → Key → Option Reply
told_taken s taker there waits =
    option_and_then (λ version. receipt_of version (Some taker)) (session_version s waits)

-- the requests that are settled when the request with this key takes these
abbrev pub settled_taken : State → Key → List OpenPlace → List Settled
settled_taken s taker gone = settled_all (told_taken s taker) gone

-- the state without these, which the request with this key took
abbrev pub without_taken : State → Key → List OpenPlace → State
without_taken s taker gone = closed s gone (settled_taken s taker gone)

-- the oldest item of a queue was taken by the request with this key
pub record TakesOne (old new : Holdings) (queue : ℕ) (taker : Key) (there : OpenPlace) : Type 0 where
  pub first : line_in old.table (Gives queue) ≡ there ∷ line_in new.table (Gives queue)
  pub has : IsSome there.item
  pub fewer : count_waiting new.table ≤ count_waiting old.table
  pub state : state_in new ≡ without_taken (state_in old) taker (there ∷ [])
  pub listed : new.settled.items
      ≡ old.settled.items ++ keys_settled (settled_taken (state_in old) taker (there ∷ []))

-- the items of some that are open
abbrev pub items_of : List OpenPlace → List (List ℕ)
items_of gone = filter_map (λ o. o.item) gone

-- so many of a queue's oldest items were taken: these, with these places
pub record TakesAll (old new : Holdings) (queue : ℕ) (taker : Key) (count : ℕ) (items : List (List ℕ))
    (places : List ℕ) : Type 0 where
  pub gone : List OpenPlace
  pub number : length gone ≡ count
  pub first : line_in old.table (Gives queue) ≡ gone ++ line_in new.table (Gives queue)
  pub fewer : count_waiting new.table ≤ count_waiting old.table
  pub state : state_in new ≡ without_taken (state_in old) taker gone
  pub listed : new.settled.items
      ≡ old.settled.items ++ keys_settled (settled_taken (state_in old) taker gone)
  pub items_are : items ≡ items_of gone
  pub places_are : places ≡ place_list gone
