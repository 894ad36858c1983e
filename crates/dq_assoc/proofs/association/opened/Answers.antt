use Rattle.std.proofs.Common.{subst}
use Rattle.dq_dimse.specs.Assembling.{new_assembly}
use Rattle.dq_assoc.specs.declared.agreement.Agreement.{Agreement}
use Rattle.dq_assoc.specs.declared.association.Held.TheVariants as code
use Rattle.dq_assoc.specs.Associations as held
use Rattle.dq_assoc.specs.Holding.{Stands}
use Rattle.dq_assoc.specs.Negotiation.{context_ids}
use Rattle.dq_assoc.proofs.HeldAssociations.{opened_stands}
use Rattle.dq_assoc.proofs.association.opened.Goals as goal

pub returns : goal.returns
returns c =
    let agreement = c.in_ok-agreement.agreement in
    subst (λ (a : Agreement). Stands (code.Open agreement c.new-assembler.result) (held.Open a (new_assembly (context_ids a)))) c.in_ok-agreement.ensures
    (opened_stands agreement _ c.new-assembler.result c.in_ok-accepted.ensures c.new-assembler.ensures)
