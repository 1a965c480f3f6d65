-- Calls of a server's traffic, one after another.
use Rattle.std.proofs.Common.{◌≡◌, Option, Some, subst, sym}
use Rattle.rv_frame.specs.Lasting.{LastingDevice}
use Rattle.rv_traffic.specs.declared.traffic.Switchboard.{Switchboard}
use Rattle.rv_traffic.specs.CallRuns.{OnlyCalls, RunsOnDevice, RunsWith}
use Rattle.rv_traffic.proofs.CallsRun.{calls_none}
use Rattle.rv_traffic.proofs.OneDevice.{calls_with, with_join}

-- nothing was called
pub none_called : {S : Type 0} (traffic : Switchboard S) → OnlyCalls traffic traffic
none_called traffic = calls_none traffic

-- calls up to the same traffic
pub calls_to : {S : Type 0} (one other same : Switchboard S) → same ≡ other → OnlyCalls one other
    → OnlyCalls one same
calls_to {S = S} one other same is calls = subst (λ (t : Switchboard S). OnlyCalls one t) (sym is) calls

-- ---- over what keeps the account, if one is kept

module _ {S K : Type 0} (lasts : LastingDevice K) where
  pub calls_turn : (old new : Switchboard S) (before after : Option K) → after ≡ before → OnlyCalls old new
      → RunsWith lasts old before new after
  calls_turn old new before after same calls =
      subst (λ (o : Option K). RunsWith lasts old before new o) (sym same)
      (calls_with lasts old new before calls)

  pub wrote_turn : (old new : Switchboard S) (account : Option K) (file after : K) → account ≡ Some file
      → RunsOnDevice lasts old file new after → RunsWith lasts old account new (Some after)
  wrote_turn old new account file after is over =
      subst (λ (o : Option K). RunsWith lasts old o new (Some after)) (sym is) over

  pub turns_join : (one between other : Switchboard S) (x y z : Option K) → RunsWith lasts one x between y
      → RunsWith lasts between y other z → RunsWith lasts one x other z
  turns_join one between other x y z first second = with_join lasts one between other x y z first second
