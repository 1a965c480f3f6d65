-- A call of which nothing came leaves its device as it was.
use Rattle.std.proofs.Common.{inl, ℕ, List, refl, arith}
use Rattle.rv_journal.specs.Device.{Disk, KeepsFile, WritesFile}
use Rattle.rv_journal.proofs.Mixing.{mixed_same}

module _ {D : Type 0} (disk : Disk D) (file : D) where
  pub nothing_kept : KeepsFile disk file file
  nothing_kept = record {
    tells = refl;
    seen = λ told. refl;
    crash = λ c left. left;
    time = record {
      same = refl;
      later = omega arith;
      nothing_else = λ t c le left. inl left;
      keeps = λ t c le left. left;
    };
  }

  pub nothing_written : (at : ℕ) (bytes : List ℕ) → WritesFile disk at bytes file file
  nothing_written at bytes = record {
    tells = refl;
    others = λ told. mixed_same at bytes (disk.seen file);
    crash = λ c left. (c, left, mixed_same at bytes c);
    time = nothing_kept.time;
  }
