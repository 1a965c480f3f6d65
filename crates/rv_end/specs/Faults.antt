-- The numbers of the faults of a status.
use Rattle.std.specs.Prelude.{ℕ}
use Rattle.rv_end.specs.declared.fault.StatusFault.{StatusFault}
use Rattle.rv_end.specs.declared.fault.StatusFault.TheVariants.{NoMemory, NotUnderstood, ReadFault, TooLong}
use Rattle.rv_end.specs.declared.fault.StatusFault.TheVariants.{WriteFault}

abbrev pub status_fault_number : StatusFault → ℕ
status_fault_number ReadFault = 1
status_fault_number WriteFault = 2
status_fault_number NoMemory = 3
status_fault_number TooLong = 4
status_fault_number NotUnderstood = 5
