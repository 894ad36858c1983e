-- The numbers of why the server stopped.
use Rattle.std.specs.Prelude.{ℕ}
use Rattle.dq_core.specs.declared.fault.Fault.{Fault}
use Rattle.dq_core.specs.declared.fault.Fault.TheVariants.{NoMemory, Store, Stopped}

abbrev pub server_fault_number : Fault → ℕ
server_fault_number NoMemory = 1
server_fault_number Store = 2
server_fault_number Stopped = 3
