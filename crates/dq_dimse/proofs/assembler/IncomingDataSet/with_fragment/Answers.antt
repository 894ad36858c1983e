use Rattle.std.proofs.Common.{refl, subst, arith, length-append}
use Rattle.dq_dimse.specs.declared.assembler.IncomingDataSet.{IncomingDataSet}
use Rattle.dq_dimse.specs.declared.assembler.IncomingDataSet.TheVariants as incoming
use Rattle.dq_dimse.specs.Holding.{IncomingRefines}
use Rattle.dq_dimse.proofs.Holdings.{part_fed}
use Rattle.dq_dimse.proofs.assembler.IncomingDataSet.with_fragment.Goals as goal

pub returns-in_ok-feed-in-Sifting-clause-value : goal.returns-in_ok-feed-in-Sifting-clause-value
returns-in_ok-feed-in-Sifting-clause-value c = λ syntax message h e.
    let held = subst (λ (p : IncomingDataSet). IncomingRefines syntax p message) c.in-Sifting.is h in
    let fragment = c.args.fragment.now in
    let room = held.2 in
    let fits = c.if-fragment-room.false in
    let joined = length-append message.octets fragment in
    part_fed syntax (incoming.Sifting _ _) message fragment held.1 (omega (arith, room, fits, joined))
    (held.0, refl, omega (arith, room, fits, joined), c.in_ok-feed-in-Sifting.ensures.fed syntax _ message.octets held.3)
