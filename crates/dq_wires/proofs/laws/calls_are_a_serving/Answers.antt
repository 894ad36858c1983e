use Rattle.dq_wires.proofs.Serving.{serving_begins, serving_turns, serving_order, serving_look, serving_whole, serving_cut}
use Rattle.dq_wires.proofs.laws.calls_are_a_serving.Goals as goal

pub returns-clause-begins : goal.returns-clause-begins
returns-clause-begins g c = serving_begins g.T.Tables.state

pub returns-clause-turns : goal.returns-clause-turns
returns-clause-turns g c = serving_turns g.T.Tables.state

pub returns-clause-order : goal.returns-clause-order
returns-clause-order g c = serving_order g.T.Tables.state

pub returns-clause-look : goal.returns-clause-look
returns-clause-look g c = λ rows. serving_look g.T.Tables.state rows

pub returns-clause-whole : goal.returns-clause-whole
returns-clause-whole g c = serving_whole g.T.Tables.state

pub returns-clause-cut : goal.returns-clause-cut
returns-clause-cut g c = λ rows. serving_cut g.T.Tables.state rows
