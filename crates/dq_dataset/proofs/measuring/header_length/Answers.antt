use Rattle.std.proofs.Common.{sym, arith}
use Rattle.dq_dataset.proofs.Counted.{implicit_header, short_header, un_header, long_header}
use Rattle.dq_dataset.proofs.measuring.header_length.Goals as goal

pub returns-in-Implicit : goal.returns-in-Implicit
returns-in-Implicit c tag = rw c.in-Implicit.is (sym (implicit_header tag c.args.vr c.args.octets))

pub returns-then-octets-le-SHORT : goal.returns-then-octets-le-SHORT
returns-then-octets-le-SHORT c tag =
    rw c.in-Explicit.is (sym (short_header tag c.args.vr c.args.octets (sym c.in-Two.ensures) c.if-octets-le-SHORT.true))

pub returns-else-octets-le-SHORT : goal.returns-else-octets-le-SHORT
returns-else-octets-le-SHORT c tag =
    rw c.in-Explicit.is (sym (un_header tag c.args.vr c.args.octets (sym c.in-Two.ensures) (omega (arith, c.if-octets-le-SHORT.false))))

pub returns-in-Four : goal.returns-in-Four
returns-in-Four c tag = rw c.in-Explicit.is (sym (long_header tag c.args.vr c.args.octets (sym c.in-Four.ensures)))
