-- A device that is frozen after some calls. It holds what the one beneath does, and a crash leaves the same.
use Rattle.std.specs.Prelude.{◌||◌, ℕ, Bool}
use Rattle.rv_journal.specs.Device.{Disk}
use Rattle.rv_journal.specs.declared.testing.failing.FailingDevice.{FailingDevice}

-- the device beneath
abbrev pub device_beneath : {D : Type 0} → FailingDevice D → D
device_beneath file = file.device

-- how many calls it still makes
abbrev pub calls_left : {D : Type 0} → FailingDevice D → ℕ
calls_left file = file.fuse.calls

-- whether it makes none any more
abbrev pub is_frozen : {D : Type 0} → FailingDevice D → Bool
is_frozen file = file.fuse.frozen

-- it has failed once it is frozen, or the device beneath has
abbrev pub failing_disk : {D : Type 0} → Disk D → Disk (FailingDevice D)
failing_disk disk = record {
  tells = λ f. disk.tells f.device;
  seen = λ f. disk.seen f.device;
  may_leave = λ f. disk.may_leave f.device;
  moment = λ f. disk.moment f.device;
  left_since = λ f. disk.left_since f.device;
  failed = λ f. f.fuse.frozen || disk.failed f.device;
  number = λ f. disk.number f.device;
  leaves_seen = λ f. disk.leaves_seen f.device;
  counts_now = λ f. disk.counts_now f.device;
  only_now = λ f. disk.only_now f.device;
}
