-- Items leave each queue in their order of arrival: first in first out, as in Java SE 21's
-- `LinkedTransferQueue` and in the fair dual queue that Scherer, Lea and Scott describe (PPoPP 2006).
use Rattle.std.specs.Prelude.{◌≡◌, ◌⊎◌, ◌<◌, ◌≤◌, ℕ, List, Some, take}
use Rattle.rv_text.specs.declared.call.Call.{Call}
use Rattle.rv_text.specs.declared.call.Side.TheVariants.{Gives, Takes}
use Rattle.rv_account.specs.declared.entry.Entry.{Entry}
use Rattle.rv_account.specs.Account.{call_at}
use Rattle.rv_account.specs.Calls.{may_name}
use Rattle.rv_account.specs.rules.Waiting.{NamesPartner, SideAt, OpenAt}

-- the giving arrival at g and the taking arrival at t of the queue are a pair, whose place is p
pub record PairAt (entries : List Entry) (queue p g t : ℕ) : Type 0 where
  pub gives : SideAt entries (Gives queue) g
  pub takes : SideAt entries (Takes queue) t
  pub names : ((p ≡ g) × NamesPartner entries g t) ⊎ ((p ≡ t) × NamesPartner entries t g)

-- the arrival at t may name more than one partner
pub record MayTakeSeveral (entries : List Entry) (t : ℕ) : Type 0 where
  pub call : Call
  pub arrived : call_at entries t ≡ Some call
  pub several : 1 < may_name call

-- the first consumer arrived before the second; or they are one, which may take several
abbrev pub TakesInTurn : List Entry → ℕ → ℕ → Type 0
TakesInTurn entries t1 t2 = (t1 < t2) ⊎ ((t1 ≡ t2) × MayTakeSeveral entries t1)

-- items leave in their order of arrival, where one consumer takes several as where each takes one, and none
-- is passed over: what was given before an item, and is open where that leaves, leaves there too
pub record InOrder (entries : List Entry) : Type 0 where
  pub in_turn : (queue p1 g1 t1 p2 g2 t2 : ℕ) → PairAt entries queue p1 g1 t1
      → PairAt entries queue p2 g2 t2 → g1 < g2 → TakesInTurn entries t1 t2 × (p1 ≤ p2)
  pub none_passed : (queue p g t r : ℕ) → PairAt entries queue p g t → r < g
      → OpenAt (take p entries) (Gives queue) r → PairAt entries queue p r t
