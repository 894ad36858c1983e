use Rattle.dq_dataset.proofs.Views.{pushed_facts, pushed_elements}
use Rattle.dq_dataset.proofs.data_set.DataSet.push.Goals as goal

pub invariant_of-self : goal.invariant_of-self
invariant_of-self c =
    pushed_facts c.push.result c.self.inside.elements c.push.new.self c.args.self.now c.args.element c.self.view_is c.self.invariant c.requires
    c.push.ensures.ok c.push.ensures.err

pub returns-clause-ok : goal.returns-clause-ok
returns-clause-ok c =
    pushed_elements c.push.result c.self.inside.elements c.push.new.self c.args.self.now c.args.element c.self.view_is c.push.ensures.ok
