use Rattle.std.proofs.Common.{None}
use Rattle.dq_dataset.proofs.LentAgrees.{lent_agrees, front_before, fault_after}
use Rattle.dq_dataset.proofs.laws.lending_law.Goals as goal

pub returns-clause-lent : goal.returns-clause-lent
returns-clause-lent c = lent_agrees

pub returns-clause-front : goal.returns-clause-front
returns-clause-front c = λ syntax octets d fault. front_before syntax None octets d fault

pub returns-clause-fault : goal.returns-clause-fault
returns-clause-fault c = λ syntax octets d fault. fault_after syntax None octets d fault
