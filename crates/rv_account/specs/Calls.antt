-- What follows for a call from its side and its wait: what it meets and how long it stays (Java SE 21,
-- `TransferQueue` and `Exchanger`).
use Rattle.std.specs.Prelude.{◌≡◌, ◌<◌, ◌+◌, ℕ, zero, suc, Option, Some, None, IsSome, option_and_then}
use Rattle.std.specs.Prelude.{unwrap_or}
use Rattle.rv_text.specs.declared.call.Wait.{Wait}
use Rattle.rv_text.specs.declared.call.Wait.TheVariants.{Now, Millis, Forever}
use Rattle.rv_text.specs.declared.call.Side.{Side}
use Rattle.rv_text.specs.declared.call.Side.TheVariants.{Gives, Takes, Looks, Exchanges}
use Rattle.rv_text.specs.declared.call.Call.{Call}
use Rattle.rv_text.specs.Calls.{drains_of, side_of, wait_of}

-- the side whose arrivals an arrival of this side meets: an exchange meets another at its exchanger
abbrev pub opposite : Side → Option Side
opposite (Gives queue) = Some (Takes queue)
opposite (Takes queue) = Some (Gives queue)
opposite (Looks queue) = None
opposite (Exchanges exchanger) = Some (Exchanges exchanger)

-- the call may name a partner: it gives, takes or exchanges
abbrev pub MayMeet : Call → Type 0
MayMeet call = IsSome (opposite (side_of call))

-- how many partners a call may name: a drain as many as it takes at most, and any other call one
abbrev pub may_name : Call → ℕ
may_name call = unwrap_or (drains_of call) 1

-- such a wait goes on past the moment of arrival; what never waits and may meet is an item, which lies there
-- until it is taken
abbrev pub Lasts : Option Wait → Type 0
Lasts None = Unit {0}
Lasts (Some Now) = ⊥
Lasts (Some (Millis n)) = 0 < n
Lasts (Some Forever) = Unit {0}

-- where no partner is there, the call stays until it is met or stopped
abbrev pub Stays : Call → Type 0
Stays call = MayMeet call × Lasts (wait_of call)

-- it may meet, and its kind never waits
abbrev pub IsPut : Call → Type 0
IsPut call = MayMeet call × (wait_of call ≡ None)

-- the moment at which a wait that began at a moment has elapsed
abbrev pub limit_after : ℕ → Wait → Option ℕ
limit_after moment Now = None
limit_after moment (Millis n) = Some (moment + n)
limit_after moment Forever = None

-- the limit of a call that arrived at a moment
abbrev pub limit_of : ℕ → Call → Option ℕ
limit_of moment call = option_and_then (limit_after moment) (wait_of call)

-- how many entries a call may come to need: its own, and one that ends its wait
abbrev pub need_by : Option Wait → ℕ
need_by None = 1
need_by (Some Now) = 1
need_by (Some (Millis zero)) = 1
need_by (Some (Millis (suc n))) = 2
need_by (Some Forever) = 2

abbrev pub need_of : Call → ℕ
need_of call = need_by (wait_of call)

-- the deadline of a wait that begins at a moment: its limit, if it has one and isn't over at once
abbrev pub deadline_after : ℕ → Option Wait → Option ℕ
deadline_after moment None = None
deadline_after moment (Some Now) = None
deadline_after moment (Some (Millis zero)) = None
deadline_after moment (Some (Millis (suc n))) = Some (moment + suc n)
deadline_after moment (Some Forever) = None
