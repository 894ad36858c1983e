use Rattle.dq_web.proofs.Paths.{below-studies}
use Rattle.dq_web.proofs.resource.resource_of_institution.Goals as goal

pub returns-in-Some-behind : goal.returns-in-Some-behind
returns-in-Some-behind c =
    below-studies c.args.institution.now c.args.rest.now c.in-Some-behind.rest.now c.in-Some-behind.ensures c.resource_in_study.result c.resource_in_study.ensures
