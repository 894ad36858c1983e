use Rattle.dq_core.proofs.isolation.PagedExamples.{paged_searches}
use Rattle.dq_core.proofs.laws.searches_are_answered_in_pages.Goals as goal

pub returns-clause-paged : goal.returns-clause-paged
returns-clause-paged c = paged_searches.0

pub returns-clause-cancelled : goal.returns-clause-cancelled
returns-clause-cancelled c = paged_searches.1

pub returns-clause-another : goal.returns-clause-another
returns-clause-another c = paged_searches.2

pub returns-clause-echo : goal.returns-clause-echo
returns-clause-echo c = paged_searches.3
