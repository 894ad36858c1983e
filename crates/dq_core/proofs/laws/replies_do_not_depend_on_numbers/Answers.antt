use Rattle.dq_core.proofs.isolation.Renumbering.{replies_anew, rows_anew, formed_anew, own_anew, at_anew}
use Rattle.dq_core.proofs.laws.replies_do_not_depend_on_numbers.Goals as goal

pub returns-clause-replies : goal.returns-clause-replies
returns-clause-replies c = λ institutions rows events another keeps. replies_anew another keeps institutions rows events

pub returns-clause-rows : goal.returns-clause-rows
returns-clause-rows c = λ institutions rows events another keeps. rows_anew another keeps institutions rows events

pub returns-clause-well_formed : goal.returns-clause-well_formed
returns-clause-well_formed c = λ events another keeps. formed_anew another keeps events

pub returns-clause-own : goal.returns-clause-own
returns-clause-own c = λ institutions name events another keeps. own_anew another keeps institutions name events

pub returns-clause-own_replies : goal.returns-clause-own_replies
returns-clause-own_replies c = λ institutions name events given another keeps. at_anew another keeps institutions name events given
