use Rattle.std.proofs.Common.{◌≡◌, ◌++◌, ◌∙◌, ℕ, List, Option, Some, sym, ap, subst}
use Rattle.std.specs.Option.{option_copied}
use Rattle.dq_core.specs.declared.pages.OpenQuery.{OpenQuery as HeldQuery}
use Rattle.dq_core.specs.Additions.{log_of}
use Rattle.dq_core.specs.Pages.{OpenQuery, next_page, page}
use Rattle.dq_core.specs.Queries.{open_query_of, records_since}
use Rattle.dq_core.specs.Slots.{IsBegunAt, query_at, institution_at}
use Rattle.dq_core.proofs.OpenQueries.{pulled-at}
use Rattle.dq_core.proofs.slot.Slot.send_page.Goals as goal

pub returns-clause-page : goal.returns-clause-page
returns-clause-page g c = λ h begun.
    let config = c.args.config.now in
    let rows = (g.T.Tables.state c.args.tables.now).rows in
    let logs = c.args.additions.now.logs.items in
    let home = c.args.self.now.institution in
    let query = c.in-Some.query in
    let institution = c.in-Some-institution_of.institution.now in
    let log = c.of.result.now in
    let is : c.args.self.now.query ≡ Some query = sym c.take.ensures.value ∙ c.in-Some.is in
    let asked = open_query_of (records_since institution.name rows log query.since) query in
    let same = pulled-at config rows logs home institution query log (sym c.institution_of.ensures ∙ ap option_copied c.in-Some-institution_of.is)
    (c.of.ensures ∙ ap (log_of config logs) c.as_slice.ensures) (subst (IsBegunAt config logs home) is begun) (Some query) in
    (c.in_ok-self.ensures.sent h).0 ∙ ap (λ (xs : List ℕ). xs ++ (page asked).octets) c.new-octets.ensures.items
    ∙ ap (λ (o : Option OpenQuery). (next_page o).octets) (sym same)
    ∙ ap (λ (o : Option HeldQuery). (next_page (query_at config rows logs home o)).octets) (sym is)

pub returns-clause-left : goal.returns-clause-left
returns-clause-left g c = λ h begun.
    let config = c.args.config.now in
    let rows = (g.T.Tables.state c.args.tables.now).rows in
    let logs = c.args.additions.now.logs.items in
    let home = c.args.self.now.institution in
    let query = c.in-Some.query in
    let institution = c.in-Some-institution_of.institution.now in
    let log = c.of.result.now in
    let is : c.args.self.now.query ≡ Some query = sym c.take.ensures.value ∙ c.in-Some.is in
    let left = c.in_ok-self.field-0 in
    let same = pulled-at config rows logs home institution query log (sym c.institution_of.ensures ∙ ap option_copied c.in-Some-institution_of.is)
    (c.of.ensures ∙ ap (log_of config logs) c.as_slice.ensures) (subst (IsBegunAt config logs home) is begun) in
    same left ∙ (c.in_ok-self.ensures.sent h).1
    ∙ ap (λ (o : Option OpenQuery). (next_page o).query) (sym (same (Some query)))
    ∙ ap (λ (o : Option HeldQuery). (next_page (query_at config rows logs home o)).query) (sym is)
