use Rattle.std.proofs.Common.{ℕ, List, option_copied, subst}
use Rattle.dq_web.specs.Aims.{IsTarget}
use Rattle.dq_web.proofs.aim.resource_at.Goals as goal

pub returns : goal.returns
returns c =
    let place = c.in_ok-place.place in
    let target = subst (λ (text : List ℕ). IsTarget text (option_copied c.args.head.now.fields.host) place.0.now place.1.now)
    c.in_ok-target.ensures.0 c.in_ok-place.ensures in
    (place.0.now, place.1.now, c.path_and_query.result.0.now, c.path_and_query.result.1.now, target, c.path_and_query.ensures, c.resource_of.ensures)
