use Rattle.rv_journal.proofs.FailingDevices.{frozen_cause, failing_cause, failing_kept}
use Rattle.rv_journal.proofs.Unchanged.{nothing_kept}
use Rattle.rv_journal.proofs.testing.failing.FailingDeviceDevice.read_at.Goals as goal

pub returns-then-not-is_made-clause-kept : goal.returns-then-not-is_made-clause-kept
returns-then-not-is_made-clause-kept g c =
    failing_kept g.D.Device.disk c.args.self.now _ (nothing_kept g.D.Device.disk c.args.self.now.device)

pub returns-then-not-is_made-clause-cause : goal.returns-then-not-is_made-clause-cause
returns-then-not-is_made-clause-cause g c =
    frozen_cause g.D.Device.disk c.args.self.now _ _ (c.is_made.ensures.frozen c.if-not-is_made.true)

pub returns-clause-cause : goal.returns-clause-cause
returns-clause-cause g c =
    failing_cause g.D.Device.disk c.args.self.now _ c.read_at.result c.is_made.ensures.lasts
    c.read_at.ensures.cause

pub returns-clause-kept : goal.returns-clause-kept
returns-clause-kept g c = failing_kept g.D.Device.disk c.args.self.now _ c.read_at.ensures.kept
