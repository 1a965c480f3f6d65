-- After a bad line, a line is only counted; else the verifier reads it; or it is the first.
use Rattle.std.proofs.Common.{rules}
use Rattle.rv_verify.proofs.Staging.{stays_bad}
use Rattle.rv_verify.proofs.stage.Stage.line.Goals as goal

pub returns-then-is_some-clause-read : goal.returns-then-is_some-clause-read
returns-then-is_some-clause-read c before has =
    stays_bad before c.args.line.now c.args.self.now.verifier c.args.self.now.bad c.args.records.now
    (search rules) has
