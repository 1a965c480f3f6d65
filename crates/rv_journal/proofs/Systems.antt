-- A write to a file that tells nothing leaves what it may leave.
use Rattle.std.proofs.Common.{inl, ℕ, List, refl, arith}
use Rattle.std.proofs.lemmas.Bool.{false≢true}
use Rattle.rv_journal.specs.Device.{WritesFile}
use Rattle.rv_journal.specs.System.{system_disk}
use Rattle.rv_journal.specs.declared.system.SystemFile.{SystemFile}
use Rattle.rv_journal.proofs.Mixing.{mixed_same}

pub system_writes : (at : ℕ) (bytes : List ℕ) (old new : SystemFile) → WritesFile system_disk at bytes old new
system_writes at bytes old new = record {
  tells = refl;
  others = λ told. absurd (false≢true told);
  crash = λ c left. (c, tt, mixed_same at bytes c);
  time = record {
    same = refl;
    later = omega arith;
    nothing_else = λ t c le left. inl tt;
    keeps = λ t c le left. tt;
  };
}
