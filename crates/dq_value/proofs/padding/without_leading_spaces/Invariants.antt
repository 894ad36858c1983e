use Rattle.std.proofs.Common.{◌≡◌, length}
use Rattle.dq_value.specs.Trimming.{is_space, without_leading}
use Rattle.dq_value.proofs.padding.without_leading_spaces.Given as goal

abbrev pub invariant-loop-others : goal.invariant-loop-others
invariant-loop-others l = without_leading is_space l.kept ≡ without_leading is_space l.octets

abbrev pub decreases-loop-others : goal.decreases-loop-others
decreases-loop-others l = length l.kept
