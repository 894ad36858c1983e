-- The numbers of why octets are not a data set.
use Rattle.std.specs.Prelude.{ℕ}
use Rattle.dq_dataset.specs.declared.fault.ReadFault.{ReadFault}
use Rattle.dq_dataset.specs.declared.fault.ReadFault.TheVariants.{Truncated, BadVr, TagOrder}
use Rattle.dq_dataset.specs.declared.fault.ReadFault.TheVariants.{BadItem, BadUndefined, TooDeep, NoMemory}

abbrev pub read_fault_number : ReadFault → ℕ
read_fault_number Truncated = 1
read_fault_number BadVr = 2
read_fault_number TagOrder = 3
read_fault_number BadItem = 4
read_fault_number BadUndefined = 5
read_fault_number TooDeep = 6
read_fault_number NoMemory = 7
