-- A first line of another form is a bad one.
use Rattle.std.proofs.Common.{refl}
use Rattle.rv_verify.proofs.Staging.{head_bad}
use Rattle.rv_verify.proofs.stage.Stage.begun.Goals as goal

pub returns-in-None-clause-read : goal.returns-in-None-clause-read
returns-in-None-clause-read c r are = head_bad c.args.line.now r (c.in-None.ensures.none refl)
