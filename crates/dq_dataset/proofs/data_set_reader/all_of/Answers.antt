use Rattle.std.proofs.Common.{arith}
use Rattle.dq_dataset.proofs.ReadIsSound.{elements_are_data_set}
use Rattle.dq_dataset.proofs.data_set_reader.all_of.Goals as goal

pub from_elements-requires : goal.from_elements-requires
from_elements-requires c =
    elements_are_data_set _ c.args.octets.now c.in_ok-elements.elements.items _ (λ i. omega (arith, c.type_inv.octets i)) c.in_ok-elements.ensures.value
