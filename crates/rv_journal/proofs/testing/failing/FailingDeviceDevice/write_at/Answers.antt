use Rattle.rv_journal.proofs.FailingDevices.{frozen_cause, failing_cause, failing_written}
use Rattle.rv_journal.proofs.Unchanged.{nothing_written}
use Rattle.rv_journal.proofs.testing.failing.FailingDeviceDevice.write_at.Goals as goal

pub returns-then-not-is_made-clause-writes : goal.returns-then-not-is_made-clause-writes
returns-then-not-is_made-clause-writes g c =
    failing_written g.D.Device.disk c.args.self.now _ c.args.at c.args.bytes.now
    (nothing_written g.D.Device.disk c.args.self.now.device c.args.at c.args.bytes.now)

pub returns-then-not-is_made-clause-cause : goal.returns-then-not-is_made-clause-cause
returns-then-not-is_made-clause-cause g c =
    frozen_cause g.D.Device.disk c.args.self.now _ _ (c.is_made.ensures.frozen c.if-not-is_made.true)

pub returns-clause-cause : goal.returns-clause-cause
returns-clause-cause g c =
    failing_cause g.D.Device.disk c.args.self.now _ c.write_at.result c.is_made.ensures.lasts
    c.write_at.ensures.cause

pub returns-clause-writes : goal.returns-clause-writes
returns-clause-writes g c = failing_written g.D.Device.disk c.args.self.now _ c.args.at c.args.bytes.now
    c.write_at.ensures.writes
