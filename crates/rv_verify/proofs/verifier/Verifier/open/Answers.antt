-- No entry was read yet.
use Rattle.std.proofs.Common.{refl}
use Rattle.rv_verify.proofs.Opening.{opens_read, opens_ready}
use Rattle.rv_verify.proofs.verifier.Verifier.open.Goals as goal

pub returns-clause-ready : goal.returns-clause-ready
returns-clause-ready c =
    opens_ready _ c.args.epoch c.args.opened c.requires.epoch c.requires.opened c.in_ok-open.ensures.state
    refl

pub returns-clause-read : goal.returns-clause-read
returns-clause-read c =
    opens_read _ c.args.epoch c.args.opened c.requires.epoch c.requires.opened c.in_ok-open.ensures.state refl
    refl
