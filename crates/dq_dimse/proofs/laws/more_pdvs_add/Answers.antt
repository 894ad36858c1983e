use Rattle.dq_dimse.proofs.Assemblies.{messages_add, messages_stay, messages_on, assembler_on}
use Rattle.dq_dimse.proofs.laws.more_pdvs_add.Goals as goal

pub returns-clause-adds : goal.returns-clause-adds
returns-clause-adds c = messages_add

pub returns-clause-fault_stays : goal.returns-clause-fault_stays
returns-clause-fault_stays c = messages_stay

pub returns-clause-goes_on : goal.returns-clause-goes_on
returns-clause-goes_on c = messages_on

pub returns-clause-stands : goal.returns-clause-stands
returns-clause-stands c = assembler_on
