-- The numbers of why PDVs are no messages.
use Rattle.std.specs.Prelude.{ℕ}
use Rattle.dq_dimse.specs.declared.fault.DimseFault.{DimseFault}
use Rattle.dq_dimse.specs.declared.fault.DimseFault.TheVariants.{WrongContext, WrongKind}
use Rattle.dq_dimse.specs.declared.fault.DimseFault.TheVariants.{BadCommand, NoMemory}

abbrev pub dimse_fault_number : DimseFault → ℕ
dimse_fault_number WrongContext = 1
dimse_fault_number WrongKind = 2
dimse_fault_number BadCommand = 3
dimse_fault_number NoMemory = 4
