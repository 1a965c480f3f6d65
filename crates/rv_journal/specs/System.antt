-- A file of the system as contracts see it.
use Rattle.std.specs.Prelude.{ℕ, ⊤, [], false, Bool, is_some}
use Rattle.rv_journal.specs.Device.{Disk}
use Rattle.rv_journal.specs.declared.system.SystemFile.{SystemFile}

-- a call of it failed
abbrev pub has_fault : SystemFile → Bool
has_fault file = is_some file.fault

-- how long it may become
abbrev pub most_bytes : SystemFile → ℕ
most_bytes file = file.most

-- whether a sync asks the system to store it
abbrev pub does_sync : SystemFile → Bool
does_sync file = file.syncs

-- it tells nothing, and a crash may leave anything
abbrev pub system_disk : Disk SystemFile
system_disk = record {
  tells = λ f. false;
  seen = λ f. [];
  may_leave = λ f c. ⊤;
  moment = λ f. 0;
  left_since = λ f t c. ⊤;
  failed = λ f. has_fault f;
  number = λ f. 0;
  leaves_seen = λ f told. tt;
  counts_now = λ f t c le now. tt;
  only_now = λ f c left. tt;
}
