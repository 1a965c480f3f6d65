-- What is told where the device failed, and what ends a journal.
use Rattle.std.specs.Prelude.{◌≡◌, Bool, false, true}
use Rattle.std.specs.declared.io.ErrorKind.{ErrorKind}
use Rattle.std.specs.declared.io.ErrorKind.TheVariants as kind
use Rattle.rv_journal.specs.declared.device.DeviceFault.TheVariants.{Failed, NoMemory}
use Rattle.rv_journal.specs.declared.fault.CreateFault.{CreateFault}
use Rattle.rv_journal.specs.declared.fault.CreateFault.TheVariants as OfCreate
use Rattle.rv_journal.specs.declared.fault.JournalFault.{JournalFault}
use Rattle.rv_journal.specs.declared.fault.JournalFault.TheVariants as OfJournal
use Rattle.rv_journal.specs.declared.fault.OpenFault.{OpenFault}
use Rattle.rv_journal.specs.declared.fault.OpenFault.TheVariants as OfOpen
use Rattle.rv_journal.specs.declared.filled.StoreFault.{StoreFault}
use Rattle.rv_journal.specs.declared.filled.StoreFault.TheVariants as OfStore

-- by a call that adds a piece
abbrev pub append_failed : JournalFault
append_failed = OfJournal.Device Failed

-- whether a journal that told this takes nothing more
abbrev pub ends_journal : JournalFault → Bool
ends_journal OfJournal.NotText = false
ends_journal OfJournal.Full = false
ends_journal (OfJournal.Device why) = true
ends_journal OfJournal.Failed = true

-- its kind as a writer's error
abbrev pub fault_kind : JournalFault → ErrorKind
fault_kind OfJournal.NotText = kind.InvalidInput
fault_kind OfJournal.Full = kind.FileTooLarge
fault_kind (OfJournal.Device NoMemory) = kind.OutOfMemory
fault_kind (OfJournal.Device Failed) = kind.Other
fault_kind OfJournal.Failed = kind.Other

-- A writer's error of this kind tells a fault, and whether the journal takes nothing more is as that says.
pub record HasKindOfFault (told : ErrorKind) (failed : Bool) : Type 0 where
  pub fault : JournalFault
  pub kind : told ≡ fault_kind fault
  pub ends : failed ≡ ends_journal fault

-- by one that makes a journal
abbrev pub create_failed : CreateFault
create_failed = OfCreate.Device Failed

-- by one that opens
abbrev pub open_failed : {F : Type 0} → OpenFault F
open_failed = OfOpen.Device Failed

-- where the lines were refused, of the reason
abbrev pub IfRefused : {F : Type 0} → OpenFault F → (F → Type 0) → Type 0
IfRefused (OfOpen.Refused why) P = P why
IfRefused OfOpen.NotFilled P = Unit {0}
IfRefused (OfOpen.Device fault) P = Unit {0}

-- by a file that stores a piece
abbrev pub store_failed : StoreFault
store_failed = OfStore.Device Failed
