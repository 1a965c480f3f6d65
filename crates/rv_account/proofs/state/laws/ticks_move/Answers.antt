-- The law, which StateLaws proves.
use Rattle.rv_account.proofs.OfState.StateLaws.{ticks_move}
use Rattle.rv_account.proofs.state.laws.ticks_move.Goals as goal

pub returns : goal.returns
returns c = ticks_move
