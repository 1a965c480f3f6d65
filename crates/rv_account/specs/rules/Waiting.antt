-- Which arrivals of a list of entries were met, were stopped, and are still open: the nodes of a dual queue
-- (Scherer, Lea and Scott, PPoPP 2006) that are matched, cancelled, or neither.
use Rattle.std.specs.Prelude.{◌≡◌, ◌⊎◌, ◌<◌, ◌≤◌, ℕ, List, Option, Some, None, slice_get}
use Rattle.rv_text.specs.declared.message.Key.{Key}
use Rattle.rv_text.specs.declared.call.Call.{Call}
use Rattle.rv_text.specs.declared.call.Side.{Side}
use Rattle.rv_text.specs.Calls.{side_of}
use Rattle.rv_account.specs.declared.entry.Entry.{Entry}
use Rattle.rv_account.specs.declared.entry.Act.{Act}
use Rattle.rv_account.specs.declared.entry.Act.TheVariants.{Hello, Arrive, Cancel, Tick}
use Rattle.rv_account.specs.Account.{NamesAt, act_at, call_at}
pub use Rattle.rv_account.specs.Account.{limit_at, limit_in}
use Rattle.rv_account.specs.Calls.{MayMeet, IsPut, Stays}

-- the arrival at p names the earlier arrival at q: a pair or a swap, whose place is p
pub record NamesPartner (entries : List Entry) (p q : ℕ) : Type 0 where
  pub call : Call
  pub arrived : call_at entries p ≡ Some call
  pub meets : MayMeet call
  pub named : NamesAt entries p q

-- the arrival at r is in a pair or a swap
pub record Met (entries : List Entry) (r : ℕ) : Type 0 where
  pub later : ℕ
  pub earlier : ℕ
  pub names : NamesPartner entries later earlier
  pub part : (r ≡ later) ⊎ (r ≡ earlier)

-- the limit, if there is one, has come at the moment
abbrev pub HasElapsed : Option ℕ → ℕ → Type 0
HasElapsed None moment = ⊥
HasElapsed (Some limit) moment = limit ≤ moment

-- an act at a moment ends the wait of the request with this key and this limit
abbrev pub EndsWait : Act → ℕ → Key → Option ℕ → Type 0
EndsWait (Hello client incarnation version) moment key limit = client ≡ key.client
EndsWait (Arrive other call) moment key limit = ⊥
EndsWait (Cancel other) moment key limit = other ≡ key
EndsWait Tick moment key limit = HasElapsed limit moment

-- the entry at s stops the request that arrived at r; nothing stops a put
pub record StoppedAt (entries : List Entry) (r s : ℕ) : Type 0 where
  pub key : Key
  pub call : Call
  pub stopper : Entry
  pub arrived : act_at entries r ≡ Some (Arrive key call)
  pub no_put : ¬ IsPut call
  pub later : r < s
  pub there : slice_get entries s ≡ Some stopper
  pub ends : EndsWait stopper.act stopper.moment key (limit_at entries r)

abbrev pub Stopped : List Entry → ℕ → Type 0
Stopped entries r = (s : ℕ) × StoppedAt entries r s

-- the arrival at r stays, and it was neither met nor stopped
pub record Open (entries : List Entry) (r : ℕ) : Type 0 where
  pub call : Call
  pub arrived : call_at entries r ≡ Some call
  pub stays : Stays call
  pub unmet : ¬ Met entries r
  pub unstopped : ¬ Stopped entries r

-- the arrival at r is of this side
pub record SideAt (entries : List Entry) (side : Side) (r : ℕ) : Type 0 where
  pub call : Call
  pub arrived : call_at entries r ≡ Some call
  pub is : side_of call ≡ side

-- an open arrival of this side stands at r
pub record OpenAt (entries : List Entry) (side : Side) (r : ℕ) : Type 0 where
  pub of_side : SideAt entries side r
  pub is_open : Open entries r

-- the oldest open arrival of a side stands at p
pub record IsOldest (entries : List Entry) (side : Side) (p : ℕ) : Type 0 where
  pub there : OpenAt entries side p
  pub oldest : (r : ℕ) → r < p → ¬ OpenAt entries side r

-- an open request other than a put
pub record Waiting (entries : List Entry) (r : ℕ) : Type 0 where
  pub is_open : Open entries r
  pub no_put : ¬ IsPut is_open.call
