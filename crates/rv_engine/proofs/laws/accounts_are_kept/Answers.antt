-- The events of a hub lead on.
use Rattle.rv_engine.proofs.Running.{accounts_are_kept}
use Rattle.rv_engine.proofs.laws.accounts_are_kept.Goals as goal

pub returns : goal.returns
returns c = accounts_are_kept
