use Rattle.dq_tables.proofs.Days.{named, ordered, natural}
use Rattle.dq_tables.proofs.laws.day_numbers_are_in_order.Goals as goal

pub returns-clause-named : goal.returns-clause-named
returns-clause-named c = named c.date_law.ensures.only

pub returns-clause-ordered : goal.returns-clause-ordered
returns-clause-ordered c = ordered c.date_law.ensures.only

pub returns-clause-natural : goal.returns-clause-natural
returns-clause-natural c = natural c.date_law.ensures.only
