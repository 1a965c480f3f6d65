use Rattle.std.proofs.Common.{arith}
use Rattle.rv_journal.specs.Opened.{file_lines}
use Rattle.rv_journal.proofs.Clearing.{is_cleared}
use Rattle.rv_journal.proofs.opening.clear_after.Goals as goal

pub returns-clause-cleared : goal.returns-clause-cleared
returns-clause-cleared g c told =
    is_cleared g.D.Device.disk c.args.end c.loop-at.at c.args.filled c.loop-at.device
    (c.loop-at.invariant.cleared told) c.requires.before (omega (arith, c.loop-at-test.false))
    (file_lines g.D.Device.disk c.args.device.now) (c.loop-at.invariant.kept.lines told)
