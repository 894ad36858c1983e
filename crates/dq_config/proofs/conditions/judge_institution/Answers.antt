use Rattle.std.proofs.Common.{◌≡◌, true, false, [], Some, arith, ap, ◌∙◌}
use Rattle.std.proofs.lemmas.Grind.{common_steps}
use Rattle.std.specs.Result.{result_err}
use Rattle.dq_config.specs.Conditions.{is_institution_name, is_name_taken, routes_conditions, first_unmet_fault}
use Rattle.dq_config.proofs.Faults.{institution_passes, institution_fails}
use Rattle.dq_config.proofs.conditions.judge_institution.Goals as goal

pub returns-in_err-judge_routes : goal.returns-in_err-judge_routes
returns-in_err-judge_routes c =
    let left : result_err c.from_residual.result ≡ Some c.in_err-judge_routes.field-0.0 = grind (arith, common_steps) in
    let name : is_institution_name c.args.institution.now.name ≡ true = grind (arith, common_steps) in
    let free : is_name_taken c.args.before.now c.args.institution.now.name ≡ false = grind (arith, common_steps) in
    left
    ∙ institution_fails c.args.before.now c.args.institution.now c.in_err-judge_routes.field-0.0 name free
    (c.in_err-judge_routes.ensures ∙ ap (λ routes. first_unmet_fault (routes_conditions c.args.before.now [] routes)) c.as_slice-3.ensures)

pub returns : goal.returns
returns c =
    let name : is_institution_name c.args.institution.now.name ≡ true = grind (arith, common_steps) in
    let free : is_name_taken c.args.before.now c.args.institution.now.name ≡ false = grind (arith, common_steps) in
    c.judge_limits.ensures
    ∙ institution_passes c.args.before.now c.args.institution.now name free
    (c.in_ok-judge_routes.ensures ∙ ap (λ routes. first_unmet_fault (routes_conditions c.args.before.now [] routes)) c.as_slice-3.ensures)
