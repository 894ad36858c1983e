use Rattle.std.proofs.Common.{◌≡◌, ◌≤◌, ◌<◌, ◌++◌, ℕ, true, false, List, length, Some, take, sym, ap, ◌∙◌, arith}
use Rattle.std.proofs.lemmas.Bool.Decides.{nat_tests}
use Rattle.dq_match.specs.declared.responses.Found.{Found}
use Rattle.dq_tables.specs.Rows.{Record, of}
use Rattle.dq_archive.specs.Additions.{without}
use Rattle.dq_archive.specs.PastArchives.{records_in}
use Rattle.dq_core.specs.declared.answers.Answers.{Answers}
use Rattle.dq_core.specs.declared.pages.OpenQuery.{OpenQuery as HeldQuery}
use Rattle.dq_core.specs.Pages.{OpenQuery, Page, page, rest}
use Rattle.dq_core.specs.Services.{responses}
use Rattle.dq_core.specs.Queries.{at_hand, open_query_of}
use Rattle.dq_core.proofs.Sending.{page-is, few-left, many-left}
use Rattle.dq_core.proofs.pages.OpenQuery.send_page.Goals as goal

pub returns-then-at_hand-le-PAGE_LENGTH-clause-sent : goal.returns-then-at_hand-le-PAGE_LENGTH-clause-sent
returns-then-at_hand-le-PAGE_LENGTH-clause-sent g c = λ h.
    let state = g.T.Tables.state in
    let records = records_in state c.args.archive.now in
    let self = c.args.self in
    let found = c.find.new.self in
    let mid : HeldQuery = record self { answers = found } in
    let was = c.send_rest.ensures.looks.reads.goes.was_honest h in
    let looks = c.in_ok-find.ensures.looks in
    let stay : records_in state c.find.new.archive ≡ records =
    λ i. without (looks.same.later i).now (of (looks.same.institution i).now.name (looks.reads.same was i)) in
    let same : open_query_of records mid ≡ open_query_of records self =
    ap (λ (f : Found). record { context = self.context.id; limit = self.limit; left = responses self.context self.command f }) (c.in_ok-find.ensures.stays was) in
    let few : length (at_hand found) ≤ 64 = grind (arith, nat_tests) in
    let whole = sym (page-is records mid true (few-left found records c.in_ok-find.ensures.enough few)) ∙ ap page same in (
      c.in_ok-send_rest.ensures.sent h ∙ ap (λ (rs : List Record). c.args.out.now.items ++ rest (open_query_of rs mid)) stay
          ∙ ap (λ (p : Page). c.args.out.now.items ++ p.octets) whole,
      ap (λ (p : Page). p.query) whole,
    )

pub returns-clause-sent : goal.returns-clause-sent
returns-clause-sent g c = λ h.
    let records = records_in g.T.Tables.state c.args.archive.now in
    let self = c.args.self in
    let found = c.find.new.self in
    let mid : HeldQuery = record self { answers = found } in
    let now = c.send_pending.new.self in
    let same : open_query_of records mid ≡ open_query_of records self =
    ap (λ (f : Found). record { context = self.context.id; limit = self.limit; left = responses self.context self.command f }) (c.in_ok-find.ensures.stays h) in
    let many : 64 < length (at_hand found) = grind (arith, nat_tests) in
    let part = sym (page-is records mid false (many-left found records many)) ∙ ap page same in (
      c.in_ok-send_pending.ensures.sent records ∙ ap (λ (p : Page). c.args.out.now.items ++ p.octets) part,
      ap (λ (a : Answers). Some (open_query_of records (record now { answers = a }))) c.in_ok-pack.ensures
          ∙ ap (λ (q : OpenQuery). Some q) (c.in_ok-send_pending.ensures.left records) ∙ ap (λ (p : Page). p.query) part,
    )
