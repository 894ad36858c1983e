-- The numbers of why turning stopped.
use Rattle.std.specs.Prelude.{ℕ}
use Rattle.dq_wires.specs.declared.fault.TurnFault.{TurnFault}
use Rattle.dq_wires.specs.declared.fault.TurnFault.TheVariants.{NoMemory, Server, Network}

abbrev pub turn_fault_number : TurnFault → ℕ
turn_fault_number NoMemory = 1
turn_fault_number (Server why) = 2
turn_fault_number Network = 3
