-- The law, which Extending proves.
use Rattle.rv_account.proofs.OfState.Extending.{ticks_extend}
use Rattle.rv_account.proofs.state.laws.ticks_extend.Goals as goal

pub returns : goal.returns
returns c = ticks_extend
