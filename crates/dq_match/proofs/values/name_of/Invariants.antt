use Rattle.std.proofs.Common.{◌≡◌, length}
use Rattle.dq_value.specs.Trimming.{without_trailing}
use Rattle.dq_match.specs.Values.{is_name_pad}
use Rattle.dq_match.proofs.values.name_of.Given as goal

abbrev pub invariant-loop-last : goal.invariant-loop-last
invariant-loop-last l = without_trailing is_name_pad l.kept ≡ without_trailing is_name_pad l.octets

abbrev pub decreases-loop-last : goal.decreases-loop-last
decreases-loop-last l = length l.kept
