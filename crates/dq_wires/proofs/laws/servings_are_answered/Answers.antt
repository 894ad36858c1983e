use Rattle.dq_wires.proofs.Serving.{served_rises}
use Rattle.dq_wires.proofs.Isolating.{served_replies, served_rows, served_written}
use Rattle.dq_wires.proofs.laws.servings_are_answered.Goals as goal

pub returns-clause-well_formed : goal.returns-clause-well_formed
returns-clause-well_formed g c = λ rows first last acts cut served. served_rises served

pub returns-clause-replies : goal.returns-clause-replies
returns-clause-replies g c = λ rows first last acts cut served honest. served_replies g.T.Tables.state served honest

pub returns-clause-rows : goal.returns-clause-rows
returns-clause-rows g c = λ rows first last acts cut served honest. served_rows g.T.Tables.state served honest

pub returns-clause-written : goal.returns-clause-written
returns-clause-written g c = λ rows first last acts cut served honest. served_written g.T.Tables.state served honest
