use Rattle.std.proofs.Common.{rules}
use Rattle.dq_tables.proofs.search.group_order.Goals as goal

pub returns : goal.returns
returns c = search rules
