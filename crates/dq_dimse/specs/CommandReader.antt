-- The answers of a reader of command sets, beside what it reads.
use Rattle.std.specs.Prelude.{◌≡◌, Option, Some, None, Result, Ok, Err}
use Rattle.dq_dataset.specs.declared.fault.ReadFault.{ReadFault}
use Rattle.dq_dataset.specs.declared.fault.ReadFault.TheVariants as read_faults
use Rattle.dq_dimse.specs.declared.fault.DimseFault.{DimseFault}
use Rattle.dq_dimse.specs.declared.fault.DimseFault.TheVariants.{WrongContext, WrongKind}
use Rattle.dq_dimse.specs.declared.fault.DimseFault.TheVariants.{BadCommand, NoMemory}

-- The result of a reader, seen by view, is what reading gives, unless memory ran out.
abbrev pub GivesOrDimseFault : {X Y : Type 0} → (X → Y) → Result X DimseFault → Option Y → Type 0
GivesOrDimseFault view (Ok x) read = read ≡ Some (view x)
GivesOrDimseFault view (Err NoMemory) read = Unit {0}
GivesOrDimseFault view (Err BadCommand) read = read ≡ None
GivesOrDimseFault view (Err WrongContext) read = ⊥
GivesOrDimseFault view (Err WrongKind) read = ⊥

-- the fault that octets without a data set become
abbrev pub dimse_fault : ReadFault → DimseFault
dimse_fault read_faults.NoMemory = NoMemory
dimse_fault _ = BadCommand
