use Rattle.std.proofs.Common.{arith}
use Rattle.dq_dataset.proofs.Whole.{found_is_spelled, spelled_is_given, err_is_faulty}
use Rattle.dq_dataset.proofs.data_set_reader.read.Goals as goal

pub returns-clause-found : goal.returns-clause-found
returns-clause-found c = found_is_spelled c.args.syntax c.args.octets.now c.all_of.result (λ i. omega (arith, c.type_inv.octets i)) c.all_of.ensures

pub returns-clause-only : goal.returns-clause-only
returns-clause-only c = λ d spells. spelled_is_given c.args.syntax c.args.octets.now c.all_of.result d spells c.all_of.ensures

pub returns-clause-fault : goal.returns-clause-fault
returns-clause-fault c = err_is_faulty c.args.syntax c.args.octets.now c.all_of.result (λ i. omega (arith, c.type_inv.octets i)) c.all_of.ensures
