use Rattle.std.proofs.Common.{◌∙◌}
use Rattle.dq_wires.proofs.Isolating.{served_rows, served_settles, served_fails}
use Rattle.dq_wires.proofs.laws.servings_settle.Goals as goal

pub returns-clause-answered : goal.returns-clause-answered
returns-clause-answered g c = λ rows first last acts cut served honest settled r left.
    (served_settles g.T.Tables.state served honest settled).only r left ∙ served_rows g.T.Tables.state served honest

pub returns-clause-failed : goal.returns-clause-failed
returns-clause-failed g c = λ rows first last new acts cut event fault served fails honest settled.
    served_fails g.T.Tables.state served (fails.goes.was_honest honest) fails honest settled
