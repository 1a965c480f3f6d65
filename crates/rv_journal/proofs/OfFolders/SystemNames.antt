-- A call of a folder that tells nothing leaves what it may leave.
use Rattle.std.proofs.Common.{inl, refl}
use Rattle.std.proofs.lemmas.Bool.{false≢true}
use Rattle.rv_journal.specs.folders.Folder.{ChangesNames, FileNames}
use Rattle.rv_journal.specs.folders.System.{system_directory}
use Rattle.rv_journal.specs.declared.folders.system.SystemFolder.{SystemFolder}

pub system_changes : (step : FileNames → FileNames) (old new : SystemFolder)
    → ChangesNames system_directory step old new
system_changes step old new = record {
  tells = refl;
  seen = λ told. absurd (false≢true told);
  crash = λ names left. (names, tt, λ name. inl refl);
  time = λ names left. inl tt;
}
