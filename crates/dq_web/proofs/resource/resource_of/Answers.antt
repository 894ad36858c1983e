use Rattle.dq_web.proofs.Paths.{path-found}
use Rattle.dq_web.proofs.resource.resource_of.Goals as goal

pub returns-in_default : goal.returns-in_default
returns-in_default c =
    let d = c.in_default in
    path-found c.args.path.now d.not-text d.not-text-2 d.not-text-3 d.not-text-4 d.not-text-5 d.not-text-6 c.resource_below.result c.resource_below.ensures
