use Rattle.std.proofs.Common.{◌≡◌, true, length, map}
use Rattle.dq_dataset.specs.declared.header.Syntax.TheVariants.{Explicit}
use Rattle.dq_dataset.specs.Lending.{lent_elements}
use Rattle.dq_match.specs.AsLent.{all_meet}
use Rattle.dq_match.specs.Prepared.{element_of_key}
use Rattle.dq_match.proofs.prepared.PreparedKeys.lent_meets.Given as goal

abbrev pub invariant-loop-next : goal.invariant-loop-next
invariant-loop-next l =
    all_meet l.later (map element_of_key l.keys) l.met l.elements ≡ all_meet l.later (map element_of_key l.keys) true (lent_elements Explicit l.octets)

abbrev pub decreases-loop-next : goal.decreases-loop-next
decreases-loop-next l = length l.elements
