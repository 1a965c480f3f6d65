-- The numbers of a server's faults, as the program prints them.
use Rattle.std.specs.Prelude.{ℕ}
use Rattle.rv_server.specs.declared.sockets.ServeFault.{ServeFault}
use Rattle.rv_server.specs.declared.sockets.ServeFault.TheVariants.{NoMemory, NoWorker}

abbrev pub serve_fault_number : ServeFault → ℕ
serve_fault_number NoWorker = 1
serve_fault_number NoMemory = 2
