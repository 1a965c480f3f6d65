-- The law, which StateLaws proves.
use Rattle.rv_account.proofs.OfState.StateLaws.{steps_move}
use Rattle.rv_account.proofs.state.laws.steps_move.Goals as goal

pub returns : goal.returns
returns c = steps_move
