use Rattle.dq_find.proofs.AnswerPages.{given_in_turn, given_in_pages, given_whole, page_is, pages_end}
use Rattle.dq_find.proofs.laws.answers_are_given_once_in_order.Goals as goal

pub returns-clause-in_turn : goal.returns-clause-in_turn
returns-clause-in_turn c = given_in_turn

pub returns-clause-in_pages : goal.returns-clause-in_pages
returns-clause-in_pages c = given_in_pages

pub returns-clause-all : goal.returns-clause-all
returns-clause-all c = given_whole

pub returns-clause-page : goal.returns-clause-page
returns-clause-page c = page_is

pub returns-clause-ended : goal.returns-clause-ended
returns-clause-ended c = pages_end
