use Rattle.std.proofs.Common.{◌≡◌, Some, arith, ◌∙◌}
use Rattle.std.proofs.lemmas.Grind.{common_steps}
use Rattle.std.specs.Result.{result_err}
use Rattle.dq_config.proofs.Faults.{judge_fails, judge_passes}
use Rattle.dq_config.proofs.conditions.judge.Goals as goal

pub returns-in_err-judge_institution : goal.returns-in_err-judge_institution
returns-in_err-judge_institution c =
    let left : result_err c.from_residual.result ≡ Some c.in_err-judge_institution.field-0.0 = grind (arith, common_steps) in
    left ∙ judge_fails c.args.institutions.now c.loop-i.i c.index-institutions-i.result _ _ (omega arith) c.index-institutions-i.is c.loop-i.invariant
    c.in_err-judge_institution.ensures

pub loop-i-preserved : goal.loop-i-preserved
loop-i-preserved c =
    judge_passes c.args.institutions.now c.loop-i.i c.index-institutions-i.result _ (omega arith) c.index-institutions-i.is c.loop-i.invariant
    c.in_ok-judge_institution.ensures
