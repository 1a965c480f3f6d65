-- The law, which LimitLaws proves.
use Rattle.rv_account.proofs.OfState.LimitLaws.{limits_only_refuse}
use Rattle.rv_account.proofs.state.laws.limits_only_refuse.Goals as goal

pub returns : goal.returns
returns c = limits_only_refuse
