use Rattle.dq_dimse.proofs.Assemblies.{messages_from-nil, assembly_from-nil, messages_from-append, assembly_from-append, messages_from-fault}
use Rattle.dq_dimse.proofs.Assemblies.{messages_from-spent, assembly_from-spent}
use Rattle.dq_dimse.proofs.laws.assemblers_go_on.Goals as goal

pub returns-clause-nothing : goal.returns-clause-nothing
returns-clause-nothing c = λ a. (messages_from-nil a, assembly_from-nil a)

pub returns-clause-parts : goal.returns-clause-parts
returns-clause-parts c = messages_from-append

pub returns-clause-next : goal.returns-clause-next
returns-clause-next c = assembly_from-append

pub returns-clause-fault : goal.returns-clause-fault
returns-clause-fault c = messages_from-fault

pub returns-clause-spent : goal.returns-clause-spent
returns-clause-spent c = λ a pdvs fault e. (messages_from-spent a pdvs fault e, assembly_from-spent a pdvs fault e)
