-- A device that has failed has a cause for what is told after another call, and by a call above it.
use Rattle.std.proofs.Common.{◌≡◌, true, ℕ, Result, Ok, Err, IsErrOf, ap, arith}
use Rattle.rv_journal.specs.Cutter.{FailsWithoutDevice}
use Rattle.rv_journal.specs.Device.{Disk, HasCause}
use Rattle.rv_journal.specs.Faults.{IfRefused, append_failed, create_failed, open_failed, store_failed}
use Rattle.rv_journal.specs.declared.device.DeviceFault.{DeviceFault}
use Rattle.rv_journal.specs.declared.device.DeviceFault.TheVariants.{NoMemory, Failed}
use Rattle.rv_journal.specs.declared.fault.CreateFault.{CreateFault}
use Rattle.rv_journal.specs.declared.fault.CreateFault.TheVariants as OfCreate
use Rattle.rv_journal.specs.declared.fault.JournalFault.{JournalFault}
use Rattle.rv_journal.specs.declared.fault.JournalFault.TheVariants as OfJournal
use Rattle.rv_journal.specs.declared.fault.OpenFault.{OpenFault}
use Rattle.rv_journal.specs.declared.fault.OpenFault.TheVariants as OfOpen
use Rattle.rv_journal.specs.declared.filled.StoreFault.{StoreFault}
use Rattle.rv_journal.specs.declared.filled.StoreFault.TheVariants as OfStore

abbrev fault_in : {T : Type 0} → Result T DeviceFault → DeviceFault
fault_in (Err fault) = fault
fault_in (Ok value) = NoMemory

fault_of : {T : Type 0} {fault : DeviceFault} → IsErrOf {T = T} (Err fault) Failed → fault ≡ Failed
fault_of {T = T} is = ap (fault_in {T = T}) is

-- an error says the same of a call with another value
pub cause_as : {D T U : Type 0} (disk : Disk D) {old new : D} {fault : DeviceFault}
    → HasCause {T = T} disk old new (Err fault) → HasCause {T = U} disk old new (Err fault)
cause_as disk cause = record { failed = λ is. cause.failed (ap Err (fault_of is)); lasts = cause.lasts }

pub cause_on : {D T : Type 0} (disk : Disk D) {old mid new : D} {result : Result T DeviceFault}
    → (disk.failed old ≡ true → disk.failed mid ≡ true) → HasCause disk mid new result
    → HasCause disk old new result
cause_on disk lasts cause = record { failed = cause.failed; lasts = λ failed. cause.lasts (lasts failed) }

abbrev stored_by : {T : Type 0} → Result T StoreFault → DeviceFault
stored_by (Err (OfStore.Device why)) = why
stored_by (Err OfStore.Full) = NoMemory
stored_by (Ok value) = NoMemory

pub store_why : {T : Type 0} (why : DeviceFault) → IsErrOf {T = T} (Err (OfStore.Device why)) store_failed
    → why ≡ Failed
store_why {T = T} why is = ap (stored_by {T = T}) is

abbrev opened_by : {F : Type 0} → OpenFault F → DeviceFault
opened_by (OfOpen.Device why) = why
opened_by OfOpen.NotFilled = NoMemory
opened_by (OfOpen.Refused why) = NoMemory

pub open_why : {F : Type 0} (why : DeviceFault) → ◌≡◌ {A = OpenFault F} (OfOpen.Device why) open_failed
    → why ≡ Failed
open_why {F = F} why is = ap (opened_by {F = F}) is

abbrev pub opened_as : {T F : Type 0} → Result T (OpenFault F) → OpenFault F
opened_as (Err fault) = fault
opened_as (Ok value) = OfOpen.NotFilled

pub reopen_why : {T F : Type 0} (why : DeviceFault)
    → IsErrOf {T = T} {E = OpenFault F} (Err (OfOpen.Device why)) open_failed → why ≡ Failed
reopen_why {T = T} {F = F} why is = open_why {F = F} why (ap (opened_as {T = T} {F = F}) is)

abbrev created_by : CreateFault → DeviceFault
created_by (OfCreate.Device why) = why
created_by OfCreate.NotText = NoMemory
created_by OfCreate.TooLong = NoMemory
created_by OfCreate.Full = NoMemory

pub create_why : (why : DeviceFault) → OfCreate.Device why ≡ create_failed → why ≡ Failed
create_why why is = ap created_by is

pub memory_not_failed : NoMemory ≡ Failed → ⊥
memory_not_failed same = cc

-- A number for each fault tells two of them apart by omega, where cc would look through all that is known.
abbrev pub create_number : CreateFault → ℕ
create_number OfCreate.NotText = 0
create_number OfCreate.TooLong = 1
create_number OfCreate.Full = 2
create_number (OfCreate.Device why) = 3

abbrev pub open_number : {T F : Type 0} → Result T (OpenFault F) → ℕ
open_number (Err OfOpen.NotFilled) = 0
open_number (Err (OfOpen.Device why)) = 1
open_number (Err (OfOpen.Refused why)) = 2
open_number (Ok value) = 3

abbrev pub add_number : {T : Type 0} → Result T JournalFault → ℕ
add_number (Err OfJournal.NotText) = 0
add_number (Err OfJournal.Full) = 1
add_number (Err (OfJournal.Device why)) = 2
add_number (Err OfJournal.Failed) = 3
add_number (Ok value) = 4

abbrev pub store_number : {T : Type 0} → Result T StoreFault → ℕ
store_number (Err OfStore.Full) = 0
store_number (Err (OfStore.Device why)) = 1
store_number (Ok value) = 2

-- what a cutter tells
pub cut_well : {T F : Type 0} (value : T) → FailsWithoutDevice {F = F} (Ok value)
cut_well value = record {
  cause = λ is. omega (arith, ap open_number is);
  filled = λ is. omega (arith, ap open_number is);
}

pub lines_were_refused : {T F : Type 0} (why : F) → FailsWithoutDevice {T = T} (Err (OfOpen.Refused why))
lines_were_refused why = record {
  cause = λ is. omega (arith, ap open_number is);
  filled = λ is. omega (arith, ap open_number is);
}

pub memory_was_refused : {T F : Type 0} → FailsWithoutDevice {T = T} {F = F} (Err (OfOpen.Device NoMemory))
memory_was_refused = record {
  cause = λ is. memory_not_failed (reopen_why NoMemory is);
  filled = λ is. omega (arith, ap open_number is);
}

pub told_on : {T U F : Type 0} {fault : OpenFault F} → FailsWithoutDevice {T = T} (Err fault)
    → FailsWithoutDevice {T = U} (Err fault)
told_on {U = U} {F = F} without = record {
  cause = λ is. without.cause (ap Err (ap (opened_as {T = U} {F = F}) is));
  filled = λ is. without.filled (ap Err (ap (opened_as {T = U} {F = F}) is));
}

-- of a refusal something else is told
pub if_refused : {F : Type 0} (fault : OpenFault F) (P Q : F → Type 0) → ((why : F) → P why → Q why)
    → IfRefused fault P → IfRefused fault Q
if_refused (OfOpen.Refused why) P Q so told = so why told
if_refused OfOpen.NotFilled P Q so told = told
if_refused (OfOpen.Device why) P Q so told = told

abbrev added_by : {T : Type 0} → Result T JournalFault → DeviceFault
added_by (Err (OfJournal.Device why)) = why
added_by (Err OfJournal.NotText) = NoMemory
added_by (Err OfJournal.Full) = NoMemory
added_by (Err OfJournal.Failed) = NoMemory
added_by (Ok value) = NoMemory

pub add_why : {T : Type 0} (why : DeviceFault) → IsErrOf {T = T} (Err (OfJournal.Device why)) append_failed
    → why ≡ Failed
add_why {T = T} why is = ap (added_by {T = T}) is
