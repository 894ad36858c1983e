use Rattle.dq_find.proofs.PagesBehind.{last_given, goes_on}
use Rattle.dq_find.proofs.laws.a_page_behind_a_key_goes_on.Goals as goal

pub returns-clause-last : goal.returns-clause-last
returns-clause-last c = last_given

pub returns-clause-behind : goal.returns-clause-behind
returns-clause-behind c = goes_on
