use Rattle.dq_worklist.proofs.Orders.{short_order}
use Rattle.dq_worklist.proofs.entry_orders.data_set_within.Goals as goal

pub returns-in-Ok-clause-short : goal.returns-in-Ok-clause-short
returns-in-Ok-clause-short c = short_order c.args.octets.now c.in-Ok.data_set c.in-Ok.ensures.found c.if-octets-gt-ORDER_LIMIT.false
