use Rattle.std.proofs.Common.{◌≡◌, length}
use Rattle.dq_value.specs.Parts.{element_values}
use Rattle.dq_match.specs.Values.{some_meet}
use Rattle.dq_match.proofs.values.some_meet.Given as goal

abbrev pub invariant-loop-value : goal.invariant-loop-value
invariant-loop-value l = some_meet l.matching (element_values l.vr l.key) l.all ≡ some_meet l.matching (element_values l.vr l.key) (element_values l.vr l.held)

abbrev pub decreases-loop-value : goal.decreases-loop-value
decreases-loop-value l = length l.all
