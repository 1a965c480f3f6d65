-- No longer front is there than all lines.
use Rattle.rv_verify.proofs.Longest.{legal_is_noted}
use Rattle.rv_verify.proofs.laws.legal_is_noted.Goals as goal

pub returns : goal.returns
returns c = legal_is_noted
