use Rattle.dq_web.proofs.Pages.{shown-front, shown-fits, shown-longest}
use Rattle.dq_web.proofs.laws.a_page_is_the_longest_front_that_has_room.Goals as goal

pub returns-clause-in_order : goal.returns-clause-in_order
returns-clause-in_order c = shown-front

pub returns-clause-fits : goal.returns-clause-fits
returns-clause-fits c = shown-fits

pub returns-clause-longest : goal.returns-clause-longest
returns-clause-longest c = shown-longest
