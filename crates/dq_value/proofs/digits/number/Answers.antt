use Rattle.std.proofs.Common.{arith}
use Rattle.dq_value.proofs.Numbers.{one_more_fits}
use Rattle.dq_value.proofs.digits.number.Goals as goal

pub overflow_mul-number : goal.overflow_mul-number
overflow_mul-number c = omega (arith, one_more_fits c.loop-octet.number 0 c.loop-octet.octet-index c.loop-octet.invariant.bound (omega arith) (omega arith))

pub overflow_add-number : goal.overflow_add-number
overflow_add-number c =
    omega (arith, one_more_fits c.loop-octet.number c.from.result c.loop-octet.octet-index c.loop-octet.invariant.bound (omega arith) (omega arith))
