-- What isn't opened after calls that keep the names of a folder, isn't opened in the folder before them.
use Rattle.std.proofs.Common.{◌∙◌, ℕ, IsTrue, Option, Some, subst, sym}
use Rattle.std.specs.Prelude.{is_some}
use Rattle.rv_journal.specs.folders.Folder.{Directory, GivenFile, KeepsNames, SameNames, WhereNamed}
use Rattle.rv_journal.specs.folders.Present.{IsPresent}
use Rattle.rv_journal.specs.declared.folders.folder.FileName.TheVariants.{Account}
use Rattle.rv_journal.specs.Device.{Disk}
use Rattle.rv_journal.specs.declared.fault.OpenFault.{OpenFault}
use Rattle.rv_machine.specs.declared.machine.Machine.{Machine}
use Rattle.rv_store.specs.Store.{FailsPresent, IsPresentFile}
use Rattle.rv_store.specs.declared.reader.RecoveryFault.{RecoveryFault}

module _ {F D : Type 0} (directory : Directory F) (disk : Disk D) (old new : F)
    (same : SameNames (directory.seen new) (directory.seen old)) where
  present_before : (epoch : ℕ) → IsPresent (directory.seen new) (Some epoch)
      → IsPresent (directory.seen old) (Some epoch)
  present_before epoch is = (
    subst (λ (o : Option GivenFile). IsTrue (is_some o)) (same (Account epoch)) is.0,
    λ other greater has. is.1 other greater
        (subst (λ (o : Option GivenFile). IsTrue (is_some o)) (sym (same (Account other))) has),
  )

  file_before : (epoch : ℕ) (file : D) → IsPresentFile directory disk new epoch file
      → IsPresentFile directory disk old epoch file
  file_before epoch file is = record {
    present = present_before epoch is.present;
    number = λ given there. is.number given (same (Account epoch) ∙ there);
  }

  same_fails : (epoch : ℕ) (from : Option Machine) (fault : OpenFault RecoveryFault)
      → FailsPresent directory disk new epoch from fault → FailsPresent directory disk old epoch from fault
  same_fails epoch from fault is = record {
    old = is.old;
    new = is.new;
    file = file_before epoch is.old is.file;
    lines = is.lines;
    not_filled = is.not_filled;
    refused = is.refused;
    cause = is.cause;
  }

module _ {F D : Type 0} (directory : Directory F) (disk : Disk D) (old between new : F)
    (first : KeepsNames directory old between) (second : KeepsNames directory between new) where
  pub fails_before : (epoch : ℕ) (from : Option Machine) (fault : OpenFault RecoveryFault)
      → WhereNamed directory new (FailsPresent directory disk new epoch from fault)
      → WhereNamed directory old (FailsPresent directory disk old epoch from fault)
  fails_before epoch from fault fails tells =
      let told : IsTrue (directory.tells between) = subst IsTrue (sym first.tells) tells in
      same_fails directory disk old new (λ name. second.seen told name ∙ first.seen tells name) epoch from
      fault (fails (subst IsTrue (sym second.tells) told))
