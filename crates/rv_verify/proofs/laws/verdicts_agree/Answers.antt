-- What an audit reads is read here too.
use Rattle.rv_verify.proofs.Agreeing.{verdicts_agree}
use Rattle.rv_verify.proofs.laws.verdicts_agree.Goals as goal

pub returns : goal.returns
returns c = verdicts_agree
