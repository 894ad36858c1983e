use Rattle.std.proofs.Common.{arith, length}
use Rattle.dq_value.proofs.Numbers.{unit_positive, fraction_fits}
use Rattle.dq_value.proofs.times.fraction_span.Goals as goal

pub overflow_add-start : goal.overflow_add-start
overflow_add-start c =
    let small = fraction_fits c.in_ok-parts.parts (length c.args.fraction.now) c.in_ok-parts.ensures.bound c.requires.few in
    rw c.pow-unit.ensures (omega (arith, c.in_ok-start.ensures.bound))

pub span_from-requires-clause-some : goal.span_from-requires-clause-some
span_from-requires-clause-some c = rw c.pow-unit.ensures (unit_positive (length c.args.fraction.now))
