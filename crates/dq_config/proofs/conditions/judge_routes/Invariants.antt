use Rattle.std.proofs.Common.{◌≡◌, [], take, drop}
use Rattle.dq_config.specs.Conditions.{routes_conditions, first_unmet_fault}
use Rattle.dq_config.proofs.conditions.judge_routes.Given as goal

abbrev pub invariant-loop-i : goal.invariant-loop-i
invariant-loop-i l = first_unmet_fault (routes_conditions l.before (take l.i l.routes) (drop l.i l.routes)) ≡ first_unmet_fault (routes_conditions l.before [] l.routes)
