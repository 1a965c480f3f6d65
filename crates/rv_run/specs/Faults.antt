-- The numbers of a run's faults.
use Rattle.std.specs.Prelude.{ℕ}
use Rattle.rv_run.specs.declared.fault.RunFault.{RunFault}
use Rattle.rv_run.specs.declared.fault.RunFault.TheVariants.{NoMemory, ReadFault, TooLong, WriteFault}

abbrev pub fault_number : RunFault → ℕ
fault_number ReadFault = 1
fault_number (WriteFault fault) = 2
fault_number NoMemory = 3
fault_number TooLong = 4
