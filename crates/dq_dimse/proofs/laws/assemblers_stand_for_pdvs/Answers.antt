use Rattle.dq_dimse.proofs.Assemblies.{assembler_only, fault_is}
use Rattle.dq_dimse.proofs.laws.assemblers_stand_for_pdvs.Goals as goal

pub returns-clause-only : goal.returns-clause-only
returns-clause-only c = assembler_only

pub returns-clause-fault : goal.returns-clause-fault
returns-clause-fault c = fault_is
