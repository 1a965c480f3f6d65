-- What becomes of a duty that arrives at an exchanger, and of a place that is withdrawn.
use Rattle.std.specs.Prelude.{◌≡◌, ◌≢◌, ℕ, Option, Some, None}
use Rattle.rv_session.specs.OwedDuty.{OwedDuty}
use Rattle.rv_swap.specs.declared.swap.SwapOutcome.{SwapOutcome}
use Rattle.rv_swap.specs.declared.swap.SwapOutcome.TheVariants as arrived
use Rattle.rv_swap.specs.declared.swap.SwapTry.{SwapTry}
use Rattle.rv_swap.specs.declared.swap.SwapTry.TheVariants as tried

-- the earlier duty waited, the later one arrived, and none waits any more
pub record Meets (old : Option OwedDuty) (duty : OwedDuty) (new : Option OwedDuty) (earlier later : OwedDuty)
    : Type 0 where
  pub waited : old ≡ Some earlier
  pub arrived : later ≡ duty
  pub left : new ≡ None

-- none waited, and the duty waits from now on
pub record Parks (old : Option OwedDuty) (duty : OwedDuty) (new : Option OwedDuty) : Type 0 where
  pub alone : old ≡ None
  pub waits : new ≡ Some duty

-- none waited, the duty is handed back, and none waits
pub record HandsBack (old : Option OwedDuty) (duty : OwedDuty) (new : Option OwedDuty) (back : OwedDuty)
    : Type 0 where
  pub alone : old ≡ None
  pub same : back ≡ duty
  pub none_waits : new ≡ None

-- a duty that waits where there is no partner
abbrev pub ArrivesToSwap : Option OwedDuty → OwedDuty → Option OwedDuty → SwapOutcome → Type 0
ArrivesToSwap old duty new (arrived.Met earlier later) = Meets old duty new earlier later
ArrivesToSwap old duty new arrived.Parked = Parks old duty new

-- a duty that doesn't wait
abbrev pub TriesAt : Option OwedDuty → OwedDuty → Option OwedDuty → SwapTry → Type 0
TriesAt old duty new (tried.Met earlier later) = Meets old duty new earlier later
TriesAt old duty new (tried.Alone back) = HandsBack old duty new back

-- the duty waited, at this place, and none waits any more
pub record LeavesExchanger (old : Option OwedDuty) (place : ℕ) (new : Option OwedDuty) (duty : OwedDuty)
    : Type 0 where
  pub waited : old ≡ Some duty
  pub own : duty.place ≡ place
  pub left : new ≡ None

-- no duty waits at this place
abbrev pub NotWaiting : Option OwedDuty → ℕ → Type 0
NotWaiting waiting place = (duty : OwedDuty) → waiting ≡ Some duty → duty.place ≢ place
