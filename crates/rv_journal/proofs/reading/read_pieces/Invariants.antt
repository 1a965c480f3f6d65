use Rattle.std.proofs.Common.{◌-◌, ◌<◌, ◌^◌, ◌≤◌, length, take}
use Rattle.rv_journal.specs.Cutter.{HasCut, HasTakenLines}
use Rattle.rv_journal.specs.Device.{WhereTold}
use Rattle.rv_journal.specs.Opened.{Looks}
use Rattle.rv_journal.proofs.reading.read_pieces.Given as goal

abbrev pub invariant-loop-cutter : goal.invariant-loop-cutter
invariant-loop-cutter g l = record {
  cut : HasCut l.at l.cutter;
  below : l.at < 2 ^ 63;
  looks : Looks g.D.Device.disk l.fn.device l.device;
  inside : WhereTold g.D.Device.disk l.fn.device (l.at ≤ length (g.D.Device.disk.seen l.fn.device));
  taken : WhereTold g.D.Device.disk l.fn.device (HasTakenLines g.R.JournalReader.takes l.fn.reader (take l.at
      (g.D.Device.disk.seen l.fn.device)) l.cutter l.reader);
}

abbrev pub decreases-loop-cutter : goal.decreases-loop-cutter
decreases-loop-cutter g l = 2 ^ 63 - l.at
