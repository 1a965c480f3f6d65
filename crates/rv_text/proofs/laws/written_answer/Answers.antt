-- The text is read back.
use Rattle.rv_text.proofs.Written.{written_answer}
use Rattle.rv_text.proofs.laws.written_answer.Goals as goal

pub returns : goal.returns
returns c = written_answer
