-- What stands at an open place: the last request of a client's session, or an item that lies there.
use Rattle.std.specs.Prelude.{◌≡◌, ℕ, List, Some, None, IsSome}
use Rattle.rv_text.specs.declared.call.Call.{Call}
use Rattle.rv_text.specs.declared.call.Side.TheVariants.{Gives}
use Rattle.rv_text.specs.Calls.{item_of, side_of, wait_of}
use Rattle.rv_text.specs.Limits.{FitsItem, FitsQueue}
use Rattle.rv_session.specs.declared.client.LastRequest.TheVariants.{Waits}
use Rattle.rv_account.specs.Calls.{Lasts, limit_of}
use Rattle.rv_account.specs.state.Agreement.{last_key_of}
use Rattle.rv_account.specs.state.State.{ClientState, OpenPlace, Waiter}

-- a request that waits since a moment with this call stands at the place
pub record StandsFor (there : OpenPlace) (since : ℕ) (call : Call) : Type 0 where
  pub side : there.side ≡ side_of call
  pub item : there.item ≡ item_of call
  pub limit : there.limit ≡ limit_of since call
  pub may_wait : IsSome (wait_of call)
  pub lasts : Lasts (wait_of call)

-- it is the last request of this session of its client
pub record IsLastOf (epoch : ℕ) (there : OpenPlace) (w : Waiter) (session : ClientState) : Type 0 where
  pub key_is : w.key ≡ last_key_of epoch w.key.client session
  pub call : Call
  pub waits : session.request ≡ Waits there.place call
  pub stands : StandsFor there w.since call

-- an item that a put gave to a queue lies at the open place: both are within their limits, and it has no time
-- limit
pub record LiesOpen (there : OpenPlace) : Type 0 where
  pub queue : ℕ
  pub side : there.side ≡ Gives queue
  pub queue_fits : FitsQueue queue
  pub item : List ℕ
  pub has : there.item ≡ Some item
  pub item_fits : FitsItem item
  pub unlimited : there.limit ≡ None
