use Rattle.std.proofs.Common.{drop, arith}
use Rattle.std.proofs.lemmas.List.{length-drop}
use Rattle.dq_match.specs.ShownPages.{shown_page}
use Rattle.dq_web.proofs.Pages.{next-offset, some-shown, all-shown}
use Rattle.dq_web.proofs.laws.a_response_without_more_has_shown_all.Goals as goal

pub returns-clause-goes_on : goal.returns-clause-goes_on
returns-clause-goes_on c = λ page rows.
    next-offset page rows (c.a_page_ends_where_it_is_filled.ensures.goes_on page rows)

pub returns-clause-some : goal.returns-clause-some
returns-clause-some c = λ page rows limit behind.
    some-shown (shown_page page rows) (c.a_page_ends_where_it_is_filled.ensures.one page rows limit behind)

pub returns-clause-all : goal.returns-clause-all
returns-clause-all c = λ wish page rows limit said.
    all-shown wish page (shown_page page rows) (drop page.offset rows) (c.a_page_ends_where_it_is_filled.ensures.all page rows)
    (λ behind. c.a_page_ends_where_it_is_filled.ensures.one page rows limit (omega (arith, behind, length-drop page.offset rows)))
    said
