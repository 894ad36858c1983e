-- What is inside an element or an item is less than the whole.
use Rattle.dq_dataset.proofs.Views.{as_elements-elements_of}
use Rattle.dq_dataset.proofs.Copies.{value_count-element, item_count-item}

pub ruleset smaller = (as_elements-elements_of, value_count-element, item_count-item)
