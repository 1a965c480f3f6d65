use Rattle.std.proofs.Common.{◌≡◌, ◌-◌, ◌≤◌, true}
use Rattle.rv_journal.specs.Device.{WhereTold}
use Rattle.rv_journal.specs.Opened.{IsClearedTo, KeepsLines}
use Rattle.rv_journal.proofs.opening.clear_after.Given as goal

abbrev pub invariant-loop-at : goal.invariant-loop-at
invariant-loop-at g l = record {
  after : l.end ≤ l.at;
  within : l.at ≤ l.filled;
  lasts : g.D.Device.disk.failed l.fn.device ≡ true → g.D.Device.disk.failed l.device ≡ true;
  cleared : WhereTold g.D.Device.disk l.fn.device (IsClearedTo g.D.Device.disk l.end l.at l.filled l.device);
  kept : KeepsLines g.D.Device.disk l.fn.device l.device;
}

abbrev pub decreases-loop-at : goal.decreases-loop-at
decreases-loop-at g l = l.filled - l.at
