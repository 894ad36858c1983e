use Rattle.std.proofs.Common.{arith}
use Rattle.dq_dataset.proofs.LentAgrees.{lent_agrees}
use Rattle.dq_dataset.proofs.lending.Elements.new.Goals as goal

pub returns-clause-agrees : goal.returns-clause-agrees
returns-clause-agrees c = lent_agrees c.args.syntax c.args.octets.now (λ i. omega (arith, c.type_inv.octets i))
