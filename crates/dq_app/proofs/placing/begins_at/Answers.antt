use Rattle.std.proofs.Common.{◌-◌, nat_eq, length, drop, ap, arith, ◌∙◌, length-drop}
use Rattle.std.specs.List.{starts_with}
use Rattle.std.proofs.lemmas.List.{take_all}
use Rattle.dq_app.specs.Places.{institution_heading}
use Rattle.dq_app.proofs.placing.begins_at.Goals as goal

pub returns : goal.returns
returns c =
    let text = c.args.text.now in
    c.starts_with.ensures.value
    ∙ ap (λ rest. starts_with nat_eq rest institution_heading) (take_all (length text - c.args.at) (drop c.args.at text) (omega (arith, length-drop c.args.at text)))
