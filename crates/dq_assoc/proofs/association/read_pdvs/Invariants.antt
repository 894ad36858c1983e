use Rattle.std.proofs.Common.{drop}
use Rattle.dq_assoc.proofs.HeldAssociations.{Reads}
use Rattle.dq_assoc.proofs.association.read_pdvs.Given as goal

abbrev pub invariant-loop-pdv : goal.invariant-loop-pdv
invariant-loop-pdv l = Reads l.initial.assembler l.messages l.assembler (drop l.pdv-index l.pdvs) l.initial.pdvs
