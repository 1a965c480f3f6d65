-- The text is read back.
use Rattle.rv_text.proofs.Written.{written_call}
use Rattle.rv_text.proofs.laws.written_call.Goals as goal

pub returns : goal.returns
returns c = written_call
