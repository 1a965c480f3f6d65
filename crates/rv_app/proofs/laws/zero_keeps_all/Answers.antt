-- By the verdict and what is kept.
use Rattle.rv_app.proofs.Kept.{zero_keeps_all}
use Rattle.rv_app.proofs.laws.zero_keeps_all.Goals as goal

pub returns : goal.returns
returns c = zero_keeps_all
