use Rattle.std.proofs.Common.{◌↔◌, drop}
use Rattle.dq_dataset.specs.View.{as_elements}
use Rattle.dq_dataset.specs.Canonical.{HasLengths}
use Rattle.dq_dataset.proofs.measuring.have_lengths.Given as goal

abbrev pub invariant-loop-element : goal.invariant-loop-element
invariant-loop-element l = HasLengths l.syntax (as_elements (drop l.element-index l.elements)) ↔ HasLengths l.syntax (as_elements l.elements)
