-- A bad line is one by which no state's lines go on.
use Rattle.std.proofs.Common.{Err, ap}
use Rattle.rv_verify.proofs.checkpoints.goes_on.Goals as goal

pub returns-in-Err-Bad-clause-no : goal.returns-in-Err-Bad-clause-no
returns-in-Err-Bad-clause-no c = λ same. c.in-Err-Bad.ensures.bad (ap Err c.in-Err-Bad.field-0-is)
