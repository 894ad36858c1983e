use Rattle.std.proofs.Common.{◌≡◌, [], take, drop}
use Rattle.dq_config.specs.Conditions.{conditions, first_unmet_fault}
use Rattle.dq_config.proofs.conditions.judge.Given as goal

abbrev pub invariant-loop-i : goal.invariant-loop-i
invariant-loop-i l = first_unmet_fault (conditions (take l.i l.institutions) (drop l.i l.institutions)) ≡ first_unmet_fault (conditions [] l.institutions)
