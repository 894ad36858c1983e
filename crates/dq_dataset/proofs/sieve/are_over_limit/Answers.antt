use Rattle.dq_dataset.specs.View.{as_elements}
use Rattle.dq_dataset.proofs.Large.{counted_large}
use Rattle.dq_dataset.proofs.sieve.are_over_limit.Goals as goal

pub returns : goal.returns
returns c = counted_large (as_elements c.args.elements.now) c.elements_length.result c.elements_length.ensures
