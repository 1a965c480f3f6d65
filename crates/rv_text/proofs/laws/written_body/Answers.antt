-- The text is read back.
use Rattle.rv_text.proofs.Written.{written_body}
use Rattle.rv_text.proofs.laws.written_body.Goals as goal

pub returns : goal.returns
returns c = written_body
