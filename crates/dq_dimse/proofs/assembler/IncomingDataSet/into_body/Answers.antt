use Rattle.std.proofs.Common.{subst}
use Rattle.dq_dimse.specs.declared.assembler.IncomingDataSet.{IncomingDataSet}
use Rattle.dq_dimse.specs.Holding.{IncomingRefines}
use Rattle.dq_dimse.proofs.assembler.IncomingDataSet.into_body.Goals as goal

pub returns-in-Sifting-clause-body : goal.returns-in-Sifting-clause-body
returns-in-Sifting-clause-body c = λ syntax message h.
    let held = subst (λ (p : IncomingDataSet). IncomingRefines syntax p message) c.in-Sifting.is h in
    c.finish.ensures.sifted syntax _ message.octets held.3
