-- The law, which LimitLaws proves.
use Rattle.rv_account.proofs.OfState.LimitLaws.{limits_hold}
use Rattle.rv_account.proofs.state.laws.limits_hold.Goals as goal

pub returns : goal.returns
returns c = limits_hold
