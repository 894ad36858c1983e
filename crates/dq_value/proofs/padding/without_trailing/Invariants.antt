use Rattle.std.proofs.Common.{◌≡◌, length}
use Rattle.dq_value.specs.Trimming.{is_padding, without_trailing}
use Rattle.dq_value.proofs.padding.without_trailing.Given as goal

abbrev pub invariant-loop-last : goal.invariant-loop-last
invariant-loop-last l = without_trailing (is_padding l.padding) l.kept ≡ without_trailing (is_padding l.padding) l.octets

abbrev pub decreases-loop-last : goal.decreases-loop-last
decreases-loop-last l = length l.kept
